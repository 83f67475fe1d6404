use Rattle.std.proofs.Common.{◌≡◌, ◌+◌, ◌≤◌, ℕ, List, ◌++◌, take, drop, arith, sym, ap, ◌∙◌, append_assoc, take-append-drop, length, length-drop}
use Rattle.std.proofs.lemmas.List.{take_all}
use Rattle.std.proofs.KnownBytes.{Appends-trans}
use Rattle.passkey_rewrite.proofs.streams.write_all.Goals as goal

-- the written bytes move from the rest to the beginning; k is no less than the length of the rest
moved : (bytes begun rest : List ℕ) (n k : ℕ) → bytes ≡ begun ++ rest → length rest ≤ k + n
    → bytes ≡ begun ++ take n rest ++ take k (drop n rest)
moved bytes begun rest n k whole room =
    whole
    ∙ ap (λ l. begun ++ l) (sym (take-append-drop n rest))
    ∙ ap (λ l. begun ++ (take n rest ++ l)) (sym (take_all k (drop n rest) (omega (arith, length-drop n rest))))
    ∙ sym (append_assoc begun (take n rest) (take k (drop n rest)))

pub loop-rest-preserved : goal.loop-rest-preserved
loop-rest-preserved g c =
    let begun = c.loop-rest.invariant.0 in
    let taken = take c.in-Ok.n c.loop-rest.rest.now in (
      begun ++ taken,
      moved _ begun c.loop-rest.rest.now c.in-Ok.n _ c.loop-rest.invariant.1 (omega arith),
      Appends-trans _ _ _ begun taken c.loop-rest.invariant.2 c.in-Ok.ensures.bytes,
    )
