mod Seats
mod Rules
