mod Spelled
mod Begins
