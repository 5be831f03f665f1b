mod Reading
mod Going
mod Turned
mod Onward
mod TouchedEntries
