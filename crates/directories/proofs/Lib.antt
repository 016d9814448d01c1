mod OneRecord
mod Rows
mod Different
mod Written
mod Judging
mod Appended
