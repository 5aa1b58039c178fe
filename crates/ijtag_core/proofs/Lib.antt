pub mod Acting
mod Exits
mod Headlines
mod Lists
mod Making
mod Names
mod Playing
mod Taking
mod Writing
mod Testing
mod Sure
