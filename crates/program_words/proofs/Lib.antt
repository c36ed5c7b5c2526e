mod Numbers
mod Meanings
mod Coordinates
mod Pieces
