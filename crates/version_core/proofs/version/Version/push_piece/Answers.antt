use Rattle.std.proofs.Common.{◌≡◌, ◌∙◌, ap, sym, ◌++◌, option_copied, append-nil}
use Rattle.tile_law.specs.Parts.{route_in}
use Rattle.grid_core.specs.Tiles.{part_of}
use Rattle.version_core.proofs.Pieces.{piece_there, piece_of}
use Rattle.version_core.proofs.version.Version.push_piece.Goals as goal
use Rattle.version_core.proofs.version.Version.push_piece.Goals.{After-part}

piece : (c : After-part) → piece_of (option_copied c.part.result) c.args.name
    ≡ route_in (part_of c.args.self.now.profile c.args.id c.args.self.now.live) c.args.name
piece c =
    piece_there c.args.self.now.profile c.part.ensures.kept.some_side c.args.id c.args.self.now.live c.args.name
    (option_copied c.part.result) c.part.ensures.value

-- src/read.rt
pub returns-in_ok-append : goal.returns-in_ok-append
returns-in_ok-append c =
    c.in_ok-append.ensures.items
    ∙ ap (λ ps. c.args.points.now.items ++ ps)
    (c.in_ok-route.ensures ∙ sym (ap (λ o. piece_of (option_copied o) c.args.name) c.in-Some.is)
    ∙ piece (goal.at.returns-in_ok-append c).After-part)

pub returns-in_default : goal.returns-in_default
returns-in_default c =
    sym (append-nil c.args.points.now.items)
    ∙ ap (λ ps. c.args.points.now.items ++ ps)
    (sym (ap (λ o. piece_of (option_copied o) c.args.name) c.in_default.is) ∙ piece (goal.at.returns-in_default c).After-part)
