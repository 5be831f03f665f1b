mod Kept
mod Parts
