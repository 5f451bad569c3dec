mod Entering
mod Starts
mod Zipped
