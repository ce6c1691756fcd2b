use Rattle.std.proofs.Common.{◌+◌, ◌*◌, ◌^◌, ◌-◌, ◌≤◌, ◌≡◌, ap, sym, ◌∙◌, subst, refl, arith}
use Rattle.radix_map.specs.Entries.{keys_end}
use Rattle.radix_map.proofs.Walks.{child_fits}
use Rattle.radix_map.proofs.entries.child_walk.Goals as goal

pub begin-requires : goal.begin-requires
begin-requires g c κs =
    let base = c.args.base in
    let n = c.args.n in
    let s = g.L.Level.bits in
    let level : c.args.shift - 4 ≡ s = omega (arith, c.requires.level) in
    let at = c.first_key.ensures ∙ ap (λ t. base + n * 2 ^ t) c.requires.level in
    let fits = child_fits base n s keys_end c.requires.slot (subst (λ t. base + 16 * 2 ^ t ≤ keys_end) c.requires.level c.requires.fits) in
    ((refl, tt), (level, (omega (arith, c.requires.small), subst (λ r. r + 16 * 2 ^ s ≤ keys_end) (sym at) fits)))
