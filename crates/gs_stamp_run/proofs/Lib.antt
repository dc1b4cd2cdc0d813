mod Exact
mod Going
mod Writing
