-- INCLUDE: what an item of its list names, and the line of the deck for it.
-- Assumes nothing.
use Rattle.std.proofs.Common.{Option}
use mathlib.Core.Path.{◌≡◌, refl, sym, ap, subst, ◌∙◌}
use mathlib.Core.Bool.{Bool, true, false, cond}
use mathlib.Core.List.{List, [], ◌∷◌}
use Prim.Native.Nat.{ℕ, zero, suc, ◌+◌, ◌-◌, ◌<◌, ◌≤◌}
use native.Mathlib.Omega.{arith}
use borrow.Author.Tests.{leb-true}
use lib.Dec.{leb}
use lib.ListN.{length, take, drop}
use Rattle.definition.specs.Bytes.{mixed, folded}
use Rattle.definition.specs.Lists.{part}
use Rattle.definition.specs.Tokens.{is_sign, token_at}
use Rattle.definition.specs.Deck as Deck
use Rattle.definition.specs.Deck.{line_at, is_sound, count, lines, find}
use Rattle.definition.specs.Run.{body_of}
use Rattle.definition.proofs.Joined.{sound_parts}
use Rattle.definition.proofs.Parts.{length_part, part_of_part}
use Rattle.deck.specs.declared.Spelled.{Spelled}
use Rattle.deck.specs.declared.Sought.{Sought}
use Rattle.deck.specs.declared.Sought.TheVariants.{Bare, InLibrary}
use Rattle.deck.specs.Answer.{body_in, found_for, spelled, sought_in}
use Rattle.tokens.specs.declared.Lexeme.{Lexeme}
use Rattle.tokens.specs.Answer.{Lexed, is_sign_in}
use Rattle.callees.specs.Answer.{spelled_at}
use Rattle.callees.proofs.Listing.{told}
use Rattle.reading.proofs.Places.{On, token_on}
use Rattle.showing.specs.Listed.{behind_open, sought_at, item_end}
use Rattle.showing.proofs.Bodies.{Lined, lined}
use Rattle.sums.specs.Numbers.{greatest, sum_to}
use Rattle.sums.proofs.Laws.{sum_fits}
use Rattle.running.specs.Members.{spelled_by, ItemIs, in_deck, FoundIs}

-- ---- THE ITEM behind a place
record Lexes (s : List ℕ) (at : ℕ) (t : Lexeme) : Type 0 where
  spells : spelled s (spelled_by t) ≡ spelled_at s at
  low : at ≤ t.from
  order : t.from ≤ t.to

lexes : (s : List ℕ) (at : ℕ) (t : Lexeme) → Lexed s at t → Lexes s at t
lexes s at t lex =
    let on : On s at (token_at mixed s at) = token_on s at in
    record {
      spells = ap (λ (i : ℕ). folded mixed (part (i - t.from) t.from s)) lex.to ∙ ap (λ (i : ℕ). folded mixed (part ((token_at mixed s at).to - i) i s)) lex.from;
      low = omega (arith, on.low, lex.from);
      order = omega (arith, on.order, lex.from, lex.to);
    }

module _ (s : List ℕ) (at : ℕ) (t : Lexeme) (lex : Lexed s at t) (x : Spelled) (e : x ≡ spelled_by t) (o : Lexeme) (lex₂ : Lexed s t.to o) (v : Bool) (sign : v ≡ is_sign_in s o (40 ∷ [])) where
  open_is : (b : Bool) → v ≡ b → is_sign "(" (token_at mixed s (token_at mixed s at).to).token ≡ b
  open_is b q = subst (λ (i : ℕ). is_sign "(" (token_at mixed s i).token ≡ b) lex.to (told s t.to o lex₂ "(" (40 ∷ []) v b refl sign q)

  first : spelled s x ≡ spelled_at s at
  first = ap (spelled s) e ∙ (lexes s at t lex).spells

  pub item_bare : v ≡ false → ItemIs s at (record { sought = Bare x; to = t.to })
  unfolding sought_in sought_at item_end
  item_bare q = record {
    is = rw (open_is false q) (ap Deck.bare first);
    to = rw (open_is false q) lex.to;
    within = λ n h.
        let k : t.to ≤ n = rw (open_is false q, ← lex.to) at h in
        rw e (omega (arith, k, (lexes s at t lex).order));
  }

  module _ (m : Lexeme) (lex₃ : Lexed s o.to m) (y : Spelled) (f : y ≡ spelled_by m) (c : Lexeme) (lex₄ : Lexed s m.to c) where
    inner : Lexed s (behind_open s at) m
    inner = subst (λ (i : ℕ). Lexed s i m) (lex₂.to ∙ ap (λ (i : ℕ). (token_at mixed s i).to) lex.to) lex₃

    second : spelled s y ≡ spelled_at s (behind_open s at)
    second = ap (spelled s) f ∙ (lexes s (behind_open s at) m inner).spells

    close_is : c.to ≡ (token_at mixed s (token_at mixed s (behind_open s at)).to).to
    close_is = lex₄.to ∙ ap (λ (i : ℕ). (token_at mixed s i).to) inner.to

    pub item_library : v ≡ true → ItemIs s at (record { sought = InLibrary x y; to = c.to })
    unfolding sought_in sought_at item_end
    item_library q = record {
      is = rw (open_is true q, first, second);
      to = rw (open_is true q) close_is;
      within = λ n h.
          let k : c.to ≤ n = rw (open_is true q, ← close_is) at h in
          let a : Lexes s at t = lexes s at t lex in
          let b : Lexes s t.to o = lexes s t.to o lex₂ in
          let d : Lexes s o.to m = lexes s o.to m lex₃ in
          let g : Lexes s m.to c = lexes s m.to c lex₄ in
          rw (e, f) (omega (arith, k, a.order, b.low, b.order, d.low, d.order, g.low, g.order), omega (arith, k, d.order, g.low, g.order));
    }

-- ---- a name in the body of a member is the same bytes in the deck
body_there : (d : List ℕ) (k : ℕ) → 0 < length (body_in d k) → (line_at d k).offset + (line_at d k).size ≤ length d
unfolding body_in
body_there d k l = by (leb ((line_at d k).offset + (line_at d k).size) (length d)) refl l
  where
    by : (b : Bool) → leb ((line_at d k).offset + (line_at d k).size) (length d) ≡ b → 0 < length (cond b (take (line_at d k).size (drop (line_at d k).offset d)) []) → (line_at d k).offset + (line_at d k).size ≤ length d
    by true e h = leb-true ((line_at d k).offset + (line_at d k).size) (length d) e
    by false e h = absurd (omega (arith, h))

name_there : (d : List ℕ) (m : ℕ) → is_sound mixed d ≡ true → m < count d → (from n : ℕ) → from + n ≤ length (body_in d m) → part n (sum_to greatest (line_at d m).offset from) d ≡ part n from (body_in d m)
unfolding body_of
name_there d m sound line from zero h = refl
name_there d m sound line from (suc n) h =
    let b : Lined d m = lined d sound m line in
    let there : (line_at d m).offset + (line_at d m).size ≤ length d = body_there d m (omega (arith, h)) in
    let size : length (body_in d m) ≡ (line_at d m).size = ap (λ (s : List ℕ). length s) b.same ∙ length_part (line_at d m).size (line_at d m).offset d in
    rw (sum_fits (line_at d m).offset from (omega (arith, there, (sound_parts d sound).few, h, size)))
    (sym (part_of_part (suc n) from (line_at d m).size (line_at d m).offset d (omega (arith, h, size))) ∙ ap (λ (s : List ℕ). part (suc n) from s) (sym b.same))

-- ---- THE LINE for what is sought
module _ (d : List ℕ) (m : ℕ) (x : Sought) (base : ℕ) (e : base ≡ (line_at d m).offset) (r : Option ℕ) where
  in_deck_lem : is_sound mixed d ≡ true → m < count d → (w v : Spelled) → v ≡ in_deck base w → w.from + w.len ≤ length (body_in d m) → spelled d v ≡ spelled (body_in d m) w
  in_deck_lem sound line w v f h = ap (spelled d) (f ∙ ap (λ (i : ℕ). in_deck i w) e) ∙ ap (folded mixed) (name_there d m sound line w.from w.len h)

  pub found_bare : (w v : Spelled) → x ≡ Bare w → v ≡ in_deck base w → r ≡ found_for (find mixed (sought_in d (Bare v)) 0 (lines d)) → FoundIs d m x r
  unfolding sought_in
  found_bare w v f g k = subst (λ (z : Sought). FoundIs d m z r) (sym f) (record { is = λ sound line h. k ∙ ap (λ (z : List ℕ). found_for (find mixed (Deck.bare z) 0 (lines d))) (in_deck_lem sound line w v g h) })

  pub found_library : (l w q v : Spelled) → x ≡ InLibrary l w → q ≡ in_deck base l → v ≡ in_deck base w → r ≡ found_for (find mixed (sought_in d (InLibrary q v)) 0 (lines d)) → FoundIs d m x r
  unfolding sought_in
  found_library l w q v f g i k = subst (λ (z : Sought). FoundIs d m z r) (sym f) (record {
    is = λ sound line h. k
        ∙ ap (λ (z : List ℕ). found_for (find mixed (Deck.in_library z (spelled d v)) 0 (lines d))) (in_deck_lem sound line l q g h.0)
        ∙ ap (λ (z : List ℕ). found_for (find mixed (Deck.in_library (spelled (body_in d m) l) z) 0 (lines d))) (in_deck_lem sound line w v i h.1);
  })
