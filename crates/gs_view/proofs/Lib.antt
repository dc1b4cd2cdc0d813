mod Beginnings
mod Steps
