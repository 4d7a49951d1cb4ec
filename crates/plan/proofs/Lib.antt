mod Known
mod Long
