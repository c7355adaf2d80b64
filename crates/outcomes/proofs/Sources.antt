-- The token at a place of a stretch.
-- Assumes nothing.
use mathlib.Core.Path.{◌≡◌, refl, ap, ◌∙◌}
use mathlib.Core.Bool.{true, false}
use mathlib.Core.List.{List, ◌∷◌}
use mathlib.Core.Logic.{◌⊎◌, inl, inr}
use denote.Bor.{Bor}
use Rattle.std.proofs.Common.{Option, None, Some, MatchOption}
use Prim.Native.Nat.{ℕ, zero, suc, ◌+◌, ◌-◌, ◌<◌, ◌≤◌}
use native.Mathlib.Omega.{arith}
use lib.ListN.{length, get_or, take, drop}
use lib.Seq.{drop-cons}
use Rattle.definition.specs.Bytes.{mixed}
use Rattle.definition.specs.Lists.{part}
use Rattle.definition.proofs.Parts.{length_part}
use Rattle.definition.specs.Tokens as T
use Rattle.tokens.specs.declared.Piece.{Piece}
use Rattle.tokens.specs.Answer.{piece_for, Cuts}
use Rattle.sums.specs.Numbers.{greatest, sum_to}
use Rattle.outcomes.specs.declared.Src.{Src}
use Rattle.outcomes.specs.Texts.{room_of, stretch_of, Within, PieceIn, part_of}

-- ---- a stretch
pub part_is : (n from : ℕ) (t : List ℕ) → from + n ≤ length t → take n (drop from t) ≡ part n from t
part_is zero from t h = refl
part_is (suc n) from t h =
    let e : drop from t ≡ get_or t from 0 ∷ drop (suc from) t = drop-cons t from 0 (omega arith) in
    ap (take (suc n)) e ∙ ap (λ (l : List ℕ). get_or t from 0 ∷ l) (part_is n (suc from) t (omega arith))

pub stretch_length : (t : List ℕ) (from to : ℕ) → length (stretch_of t from to) ≡ to - from
unfolding stretch_of
stretch_length t from to = length_part (to - from) from t

pub slice_is : (t k : List ℕ) (from to : ℕ) → k ≡ take (to - from) (drop from t) → from ≤ to → to ≤ length t → k ≡ stretch_of t from to
unfolding stretch_of
slice_is t k from to e h l = e ∙ part_is (to - from) from t (omega arith)

-- the stretch, looked up in a room
pub bytes_there : (t u : List ℕ) (from to : ℕ) → u ≡ t → (r : Option (Bor (List ℕ))) → MatchOption r ((to < from) ⊎ (length u < to)) (λ x. (from ≤ to) × (to ≤ length u) × (x.now ≡ take (to - from) (drop from u)) × (length x.now + from ≡ to))
    → MatchOption r (Within t from to → ⊥) (λ x. x.now ≡ stretch_of t from to)
bytes_there t u from to e None h = λ w. elim h [ inl a ↦ omega (arith, a, w.order) | inr a ↦ omega (arith, a, w.within, ap (λ (l : List ℕ). length l) e) ]
bytes_there t u from to e (Some x) h = slice_is t x.now from to (rw e at h.2) h.0 (rw e at h.1)

-- ---- the token at a place
pub piece_in : (t k : List ℕ) (from to p : ℕ) (r : Piece) → k ≡ stretch_of t from to → Cuts k p r → PieceIn t from to p r
piece_in t k from to p r f c = record { is = λ w q. c.is (rw f (omega (arith, stretch_length t from to))) ∙ ap (λ (x : List ℕ). piece_for (T.piece_at mixed x p)) f }

pub piece_none : (t : List ℕ) (from to p : ℕ) (r : Piece) → (Within t from to → ⊥) → PieceIn t from to p r
piece_none t from to p r h = record { is = λ w q. absurd (h w) }

-- ---- the room of a source
pub room_work : (s w : List ℕ) (x : Src) → x.in_work ≡ true → w ≡ room_of s w x
unfolding room_of
room_work s w x e = rw e

pub room_body : (s w : List ℕ) (x : Src) → x.in_work ≡ false → s ≡ room_of s w x
unfolding room_of
room_body s w x e = rw e

pub part_of_is : (x : Src) (from to a b : ℕ) → a ≡ sum_to greatest x.from from → b ≡ sum_to greatest x.from to → record { in_work = x.in_work; from = a; to = b } ≡ part_of x from to
part_of_is x from to a b e f = rw (e, f)
