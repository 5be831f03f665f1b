mod Serving
mod Resting
