pub mod Laws
pub mod PlanarEdges
