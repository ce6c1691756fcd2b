-- Laws is for the crates above. The other files are inner: they are about the tree and its walks, and
-- change with them.
pub mod Carried
pub mod Carrying
pub mod Copied
pub mod Cuts
pub mod Digits
pub mod Edits
pub mod Halves
pub mod Keys
pub mod Laws
pub mod Leaves
pub mod Noted
pub mod Roots
pub mod Trees
pub mod Values
pub mod Walks
