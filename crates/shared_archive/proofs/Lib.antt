mod Blocks
mod Serving
mod Asking
mod Reporting
mod Renewing
mod Lanes
