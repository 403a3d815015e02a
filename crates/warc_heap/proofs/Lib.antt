mod Rooms
mod Taken
mod Values
