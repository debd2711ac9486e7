mod Cutting
mod Desking
