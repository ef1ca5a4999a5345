mod Own
mod Fronts
mod Framing
