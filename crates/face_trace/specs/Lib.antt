pub mod HalfEdge
pub mod Spokes
pub mod Links
pub mod Laws
