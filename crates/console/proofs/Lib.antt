mod Overlong
mod Told
