-- `new` and `moved` promise both fields of a reader, and so the reader: any two that meet the promise are one. Assumes nothing.
use Prim.Native.Nat.{ℕ}
use mathlib.Core.Path.{◌≡◌, sym, ◌∙◌}
use mathlib.Core.List.{List}
use denote.Ref.{Bor}
use Rattle.reader.specs.declared.Reader.{Reader}

pub reader_settles : (src : Bor (List ℕ)) (at : ℕ) (r q : Reader) → (r.src ≡ src) × (r.at ≡ at)
    → (q.src ≡ src) × (q.at ≡ at) → r ≡ q
reader_settles src at r q e f =
    let one = e.0 ∙ sym f.0 in
    let two = e.1 ∙ sym f.1 in
    λ i. record { src = one i; at = two i }
