mod Keyed
mod Order
mod Rising
mod SameKeys
