mod Relays
mod Steps
