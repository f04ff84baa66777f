-- Laws of strips: the search for a bad place, the history at a place, and a strip with one more word.
pub mod Append
pub mod Bad
pub mod Places
