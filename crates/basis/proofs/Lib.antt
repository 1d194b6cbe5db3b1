mod Steps
mod Falls
mod Starts
mod Powers
mod Found
mod Laid
