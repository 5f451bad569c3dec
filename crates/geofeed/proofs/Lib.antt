mod Puts
mod Taken
