pub mod Narrowing
pub mod Examples
pub mod Pathing
pub mod Within
pub mod SaidRows
pub mod Naming
pub mod FormedRows
pub mod FormedLines
