use Rattle.std.proofs.Common.{length}
use Rattle.bench_links.proofs.+is_fresh.Given as goal

-- a run is shorter without its first pixel
abbrev pub decreases-is_fresh : goal.decreases-is_fresh
decreases-is_fresh l = length l.run.now
