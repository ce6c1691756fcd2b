-- That points, names, edges and tiles are totally ordered, as `Ord` wants it: each by its parts in turn.
use Rattle.std.specs.Cmp.{IsTotalOrder, int_cmp_total, nat_cmp_total, then_total, on_total}
use Rattle.grid_core.specs.declared.point.Point.{Point}
use Rattle.grid_core.specs.Vector.{point_cmp}
use Rattle.grid_core.specs.Name.{Label, label_cmp}
use Rattle.grid_core.specs.Edge.{EdgeEnds, edge_cmp}
use Rattle.grid_core.specs.declared.tile.TileId.{TileId}
use Rattle.grid_core.specs.Tiles.{tile_cmp}

pub points_in_order : IsTotalOrder point_cmp
points_in_order = then_total (on_total (λ (p : Point). p.x) int_cmp_total) (on_total (λ (p : Point). p.y) int_cmp_total)

pub names_in_order : IsTotalOrder label_cmp
names_in_order =
    then_total (on_total (λ (n : Label). n.editor) nat_cmp_total) (on_total (λ (n : Label). n.serial) nat_cmp_total)

pub edges_in_order : IsTotalOrder edge_cmp
edges_in_order =
    then_total (on_total (λ (e : EdgeEnds). e.a) points_in_order) (on_total (λ (e : EdgeEnds). e.b) points_in_order)

pub tiles_in_order : IsTotalOrder tile_cmp
tiles_in_order = then_total (on_total (λ (t : TileId). t.i) int_cmp_total) (on_total (λ (t : TileId). t.j) int_cmp_total)
