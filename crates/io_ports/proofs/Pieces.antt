-- Several reads or writes, one after the other, take or write their pieces joined. Each law goes by
-- cases on what is told before, in between and afterwards.
use Rattle.std.proofs.Common.{◌≡◌, ℕ, ◌+◌, ◌-◌, ◌<◌, ◌≤◌, List, [], ◌++◌, Option, None, Some, IfSome, length, take, drop, min, sym, ap, ◌∙◌, subst, arith, length-append, take-append-drop}
use Rattle.std.proofs.lemmas.List.{drop_all, take_all, take_at, take_rest, drop-drop, length-drop, length-take, length-take-le}
use Rattle.std.proofs.Math.Seq.{take-add, take-append-add}
use Rattle.std.specs.Io.KnownBytes.{Appends, Consumes, Keeps}
use Rattle.std.proofs.KnownBytes.{Appends-kept, Appends-trans, Consumes-trans}
use Rattle.io_ports.specs.Transfers.{TakesAtMost, TakesExactly, WritesPrefix}

-- the front of what is left from an index on fills the front of a buffer, as far as either goes
pub front_is_read : (all xs front buf left : List ℕ) (i n : ℕ)
    → all ≡ xs → drop i xs ≡ left → front ≡ take n (take (length all - i) (drop i all)) → n ≡ min (length (take (length all - i) (drop i all))) (length buf)
    → (left ≡ take n (front ++ drop n buf) ++ drop (i + n) xs) × (n ≡ 0 → 0 < length (front ++ drop n buf) → drop (i + n) xs ≡ [])
front_is_read all xs front buf left i n same view filled most =
    let rest : take (length all - i) (drop i all) ≡ drop i xs = take_rest all i ∙ ap (drop i) same in
    let is_front : front ≡ take n (drop i xs) = filled ∙ ap (take n) rest in
    let count : n ≡ min (length (drop i xs)) (length buf) = most ∙ ap (λ l. min (length l) (length buf)) rest in
    let within : n ≤ length (drop i xs) = omega arith in
    let size : length front ≡ n = ap length is_front ∙ length-take-le n (drop i xs) within in
    let kept : take n (front ++ drop n buf) ≡ take n (drop i xs) = take_at front (drop n buf) n size ∙ is_front in (
      sym view ∙ sym (take-append-drop n (drop i xs)) ∙ ap (λ l. take n (drop i xs) ++ l) (drop-drop n i xs) ∙ ap (λ l. l ++ drop (i + n) xs) (sym kept),
      λ none some. drop_all (i + n) xs (omega (arith, length-drop i xs, length-drop n buf, length-append front (drop n buf))),
    )

-- of a source that tells its bytes, the number of those taken has one value
pub exactly_once : (xs bs : List ℕ) (new : Option (List ℕ)) (n : ℕ) → Consumes (Some xs) new bs → TakesExactly (Some xs) new n → n ≡ length bs
exactly_once xs bs None n c t = absurd c
exactly_once xs bs (Some ys) n c t = omega (arith, ap length c, ap length t.1, length-append bs ys, length-append t.0 ys, t.2)

-- where at most n bytes were taken, n + 1 were not
pub none_past : (old new : Option (List ℕ)) (bs : List ℕ) (n : ℕ) (P : Type 0) → Consumes old new bs → length bs ≤ n → IfSome old (λ _. TakesExactly old new (n + 1) → P)
none_past None new bs n P c h = tt
none_past (Some xs) new bs n P c h = λ t. let same = exactly_once xs bs new (n + 1) c t in absurd (omega arith)

-- some bytes were taken, and then the first n of a buffer
pub takes_more : (a b c : Option (List ℕ)) (bs buf : List ℕ) (n most : ℕ) → Consumes a b bs → Consumes b c (take n buf) → length bs + n ≤ most → TakesAtMost a c most
takes_more a b c bs buf n most p q h = (bs ++ take n buf, Consumes-trans a b c bs (take n buf) p q, omega (arith, length-append bs (take n buf), length-take n buf))

-- some bytes were taken, and then the first n of a buffer that has them, together as many as said
pub takes_just : (a b c : Option (List ℕ)) (bs buf : List ℕ) (n count : ℕ) → Consumes a b bs → Consumes b c (take n buf) → n ≤ length buf → length bs + n ≡ count → TakesExactly a c count
takes_just a b c bs buf n count p q h e = (bs ++ take n buf, Consumes-trans a b c bs (take n buf) p q, omega (arith, length-append bs (take n buf), length-take-le n buf h))

-- a whole list was written, and then nothing
pub kept_whole : (a b c : Option (List ℕ)) (bs : List ℕ) → Appends a b bs → Keeps b c → WritesPrefix a c bs
kept_whole a b c bs p k = (length bs, subst (Appends a c) (sym (take_all (length bs) bs (omega arith))) (Appends-kept a b c bs p k))

-- a whole list was written, and then a prefix of another
pub prefix_more : (a b c : Option (List ℕ)) (xs ys : List ℕ) → Appends a b xs → WritesPrefix b c ys → WritesPrefix a c (xs ++ ys)
prefix_more a b c xs ys p q = (length xs + q.0, subst (Appends a c) (sym (take-append-add xs ys q.0)) (Appends-trans a b c xs (take q.0 ys) p q.1))

-- what is left after the first d bytes is not empty
pub some_left : (bs : List ℕ) (d : ℕ) → d < length bs → 0 < length (take (length bs - d) (drop d bs))
some_left bs d h = rw take_rest (omega (arith, length-drop d bs))

-- the first d bytes were written, and then the first n of the rest
pub front_more : (a b c : Option (List ℕ)) (bs : List ℕ) (d n : ℕ) → Appends a b (take d bs) → Appends b c (take n (take (length bs - d) (drop d bs))) → Appends a c (take (d + n) bs)
front_more a b c bs d n p q =
    let rest : Appends b c (take n (drop d bs)) = rw take_rest at q in
    subst (Appends a c) (sym (take-add d n bs)) (Appends-trans a b c (take d bs) (take n (drop d bs)) p rest)
