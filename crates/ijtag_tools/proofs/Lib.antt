mod Choosing
mod Leaving
mod Settling
mod Promising
