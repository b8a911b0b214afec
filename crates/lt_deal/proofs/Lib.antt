pub mod Lists
pub mod Draws
pub mod Gives
pub mod Stocks
pub mod Splits
pub mod Opens
pub mod Closes
