mod Collectors
mod Following
