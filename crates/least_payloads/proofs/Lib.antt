-- literal items
mod Worked
