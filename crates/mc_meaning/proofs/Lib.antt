mod Calls
mod Instances
mod Params
mod Sizes
mod Steps
