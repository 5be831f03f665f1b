pub mod Offers
pub mod SharedFeeds
pub mod inner
