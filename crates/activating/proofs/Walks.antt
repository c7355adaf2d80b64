-- From name to name, and all names of a list.
-- Assumes nothing.
use mathlib.Core.Path.{◌≡◌, refl, sym, ap, ◌∙◌}
use mathlib.Core.Bool.{Bool, true, false}
use mathlib.Core.Logic.{◌⊎◌, inl, inr}
use mathlib.Core.List.{List, [], ◌∷◌}
use Prim.Native.Nat.{ℕ, zero, suc, ◌+◌, ◌-◌, ◌*◌, ◌<◌, ◌≤◌}
use Prim.Native.String.{String}
use native.Mathlib.Omega.{arith}
use Rattle.std.specs.Prelude.{Option, Some, None}
use lib.ListN.{length}
use Rattle.definition.specs.Bytes.{mixed, folded}
use Rattle.definition.specs.Lists.{part}
use Rattle.definition.specs.Text.{bytes_of}
use Rattle.definition.specs.Tokens.{token_at}
use Rattle.definition.specs.World as W
use Rattle.definition.specs.World.{World, Res, bind}
use Rattle.definition.specs.Run.{activate_name}
use Rattle.definition.specs.declared.Why.{Why}
use Rattle.names.specs.declared.Activity.{Activity}
use Rattle.names.specs.declared.Activity.TheVariants.{Rescanned, CopiedOnly}
use Rattle.names.specs.Table.{activity_of}
use Rattle.tokens.specs.declared.Lexeme.{Lexeme}
use Rattle.tokens.specs.Answer.{Lexed, is_sign_in, is_word_in}
use Rattle.tokens.proofs.Lexemes as L
use Rattle.callees.specs.Shown.{Named}
use Rattle.callees.specs.Answer.{spelled_at}
use Rattle.callees.proofs.Listing.{told}
use Rattle.outcomes.specs.Texts.{Awake}
use Rattle.statements.specs.Clauses.{rescan_past}
use Rattle.activating.specs.declared.Listed.{Listed}
use Rattle.activating.specs.declared.Listed.TheVariants.{Plainly, WithRescan, WithAttributes}
use Rattle.activating.specs.Lists.{past_sign, behind_comma, declared_next, next_in, activity_behind, onward, name_end, set_from}
use Rattle.activating.specs.Sets.{awake, outcome, Kept, SetsName, SetsAll}

-- ---- signs and words
module _ (s : List ℕ) (at : ℕ) (l : Lexeme) (lex : Lexed s at l) (b : Bool) where
  module _ (bs : List ℕ) (f : b ≡ is_sign_in s l bs) (w : String) (e : bytes_of w ≡ bs) where
    pub sign_there : b ≡ true → l.to ≡ past_sign w s at
    unfolding past_sign
    sign_there g = rw (told s at l lex w bs b true e f g, lex.to)

    pub sign_absent : b ≡ false → at ≡ past_sign w s at
    unfolding past_sign
    sign_absent g = rw (told s at l lex w bs b false e f g)

  pub comma_there : b ≡ is_sign_in s l (44 ∷ []) → b ≡ true → Some l.to ≡ behind_comma s at
  unfolding behind_comma
  comma_there f g = rw (told s at l lex "," (44 ∷ []) b true refl f g, lex.to)

  pub comma_absent : b ≡ is_sign_in s l (44 ∷ []) → b ≡ false → None ≡ behind_comma s at
  unfolding behind_comma
  comma_absent f g = rw (told s at l lex "," (44 ∷ []) b false refl f g)

  pub comma_inside : b ≡ is_sign_in s l (44 ∷ []) → b ≡ true → Some l.to ≡ declared_next s at
  unfolding declared_next
  comma_inside f g = rw (told s at l lex "," (44 ∷ []) b true refl f g, lex.to)

  pub comma_behind : b ≡ is_sign_in s l (44 ∷ []) → b ≡ false → (p : ℕ) → p ≡ past_sign ")" s at → (a : Lexeme) → Lexed s p a → (y : Option ℕ) → y ≡ behind_comma s a.to
      → y ≡ declared_next s at
  unfolding declared_next
  comma_behind f g p h a q y k = rw (told s at l lex "," (44 ∷ []) b false refl f g, ← h, ← q.to) k

  module _ (f : b ≡ is_word_in s l (78 ∷ 79 ∷ 82 ∷ 69 ∷ 83 ∷ 67 ∷ 65 ∷ 78 ∷ [])) where
    pub copied_there : b ≡ true → (k : Listed) (x : Activity) → k ≡ WithRescan → CopiedOnly ≡ activity_behind k x s at
    unfolding activity_behind
    copied_there g k x h = rw (h, ← L.is_word_lem s at l lex "NORESCAN" (78 ∷ 79 ∷ 82 ∷ 69 ∷ 83 ∷ 67 ∷ 65 ∷ 78 ∷ []) refl, ← f, g)

    pub copied_absent : b ≡ false → (k : Listed) (x : Activity) → k ≡ WithRescan → Rescanned ≡ activity_behind k x s at
    unfolding activity_behind
    copied_absent g k x h = rw (h, ← L.is_word_lem s at l lex "NORESCAN" (78 ∷ 79 ∷ 82 ∷ 69 ∷ 83 ∷ 67 ∷ 65 ∷ 78 ∷ []) refl, ← f, g)

module _ (k : Listed) (s : List ℕ) (at : ℕ) where
  pub activity_given : (x : Activity) → (k ≡ Plainly) ⊎ (k ≡ WithAttributes) → x ≡ activity_behind k x s at
  unfolding activity_behind
  activity_given x (inl e) = rw e
  activity_given x (inr e) = rw e

  pub next_plain : (y : Option ℕ) → k ≡ Plainly → y ≡ behind_comma s at → y ≡ next_in k s at
  unfolding next_in
  next_plain y e f = rw e f

  pub next_rescan : (y : Option ℕ) (p : ℕ) → k ≡ WithRescan → p ≡ rescan_past s at → y ≡ behind_comma s p → y ≡ next_in k s at
  unfolding next_in
  next_rescan y p e g f = rw (e, ← g) f

  pub next_attribute : (y : Option ℕ) → k ≡ WithAttributes → y ≡ declared_next s at → y ≡ next_in k s at
  unfolding next_in
  next_attribute y e f = rw e f

-- ---- all of them: what is left to set does the same as what was to set
pub set_from_lem : (k : Listed) (x : Activity) (s : List ℕ) (turns at : ℕ) (w : World) → 0 < turns
    → set_from k x s turns at w ≡ bind (activate_name (activity_of (activity_behind k x s (name_end s at))) (spelled_at s (past_sign "(" s at)) w) λ _ v. onward (next_in k s (name_end s at)) (λ e. set_from k x s (turns - 1) e) v
unfolding set_from
set_from_lem k x s zero at w h = absurd (omega arith)
set_from_lem k x s (suc f) at w h = let e : suc f - 1 ≡ f = omega arith in rw e

-- the same with the name's end and bytes as they are known
pub set_name : (k : Listed) (x : Activity) (s : List ℕ) (turns at : ℕ) (w : World) → 0 < turns → (e : ℕ) → name_end s at ≡ e → (l : List ℕ) → spelled_at s (past_sign "(" s at) ≡ l
    → set_from k x s turns at w ≡ bind (activate_name (activity_of (activity_behind k x s e)) l w) λ _ v. onward (next_in k s e) (λ q. set_from k x s (turns - 1) q) v
set_name k x s turns at w h e p l q =
    set_from_lem k x s turns at w h
    ∙ ap (λ (z : ℕ). bind (activate_name (activity_of (activity_behind k x s z)) (spelled_at s (past_sign "(" s at)) w) λ _ v. onward (next_in k s z) (λ y. set_from k x s (turns - 1) y) v) p
    ∙ ap (λ (z : List ℕ). bind (activate_name (activity_of (activity_behind k x s e)) z w) λ _ v. onward (next_in k s e) (λ y. set_from k x s (turns - 1) y) v) q

kept_then : (d t u v : List ℕ) (n : ℕ) → Kept d t u n → Kept d u v n → Kept d t v n
kept_then d t u v n a b = record {
  size = b.size ∙ a.size;
  identifiers = λ room. b.identifiers (omega (arith, room, a.size)) ∙ a.identifiers room;
  denotations = λ room. b.denotations (omega (arith, room, a.size)) ∙ a.denotations room;
}

pub none_if : (o : Option ℕ) → ((e : ℕ) → o ≡ Some e → ⊥) → o ≡ None
none_if None h = refl
none_if (Some e) h = absurd (h e refl)

-- after i names
pub record Setting (d s t₀ : List ℕ) (n : ℕ) (k : Listed) (x : Activity) (from : ℕ) (t : List ℕ) (at i : ℕ) : Type 0 where
  pub kept : Kept d t₀ t n
  pub is : (B : World) → Named d t₀ n B → Awake d t₀ n B → 16 * n ≤ length t₀ → set_from k x s (length s) from B ≡ set_from k x s (length s - i) at (awake t n B)

pub setting_start : (d s t : List ℕ) (n : ℕ) (k : Listed) (x : Activity) (from : ℕ) → Setting d s t n k x from t from 0
setting_start d s t n k x from = record {
  kept = record { size = refl; identifiers = λ _. refl; denotations = λ _. refl };
  is = λ B nd aw room.
      let e : length s - 0 ≡ length s = omega arith in
      rw e (ap (λ (zs : List W.Activity). set_from k x s (length s) from (W.with_tables B.identifiers B.denotations B.values zs B)) aw.activities);
}

module _ (d s t₀ : List ℕ) (n : ℕ) (k : Listed) (x : Activity) (from : ℕ) (t : List ℕ) (at i : ℕ) (c : Setting d s t₀ n k x from t at i) where
  abbrev turns : ℕ
  turns = length s - i

  pub setting_done : length s ≤ i → SetsAll d s t₀ t n from k x true
  unfolding set_from
  setting_done h = let e : turns ≡ 0 = omega arith in record { kept = c.kept; does = record { is = λ B nd aw room. rw e at (c.is B nd aw room) } }

  module _ (lt : i < length s) (p : ℕ) (hp : p ≡ past_sign "(" s at) (l : Lexeme) (lex : Lexed s p l) (y : Activity) (hy : y ≡ activity_behind k x s l.to) (u : List ℕ) (b : Bool)
      (one : SetsName d s t u n l y b) where
    both_kept : Kept d t₀ u n
    both_kept = kept_then d t₀ t u n c.kept one.kept

    name_end_lem : name_end s at ≡ l.to
    name_end_lem = ap (λ (q : ℕ). (token_at mixed s q).to) (sym hp) ∙ sym lex.to

    name_spelled : spelled_at s (past_sign "(" s at) ≡ folded mixed (part (l.to - l.from) l.from s)
    name_spelled = ap (λ (q : ℕ). spelled_at s q) (sym hp) ∙ rw (lex.from, lex.to)

    first : (B : World) → Named d t₀ n B → Awake d t₀ n B → 16 * n ≤ length t₀
        → activate_name (activity_of (activity_behind k x s l.to)) (folded mixed (part (l.to - l.from) l.from s)) (awake t n B) ≡ outcome b (awake u n B)
    first B nd aw room =
        ap (λ (z : Activity). activate_name (activity_of z) (folded mixed (part (l.to - l.from) l.from s)) (awake t n B)) (sym hy)
        ∙ one.does.is (awake t n B)
        (record { identifiers = nd.identifiers ∙ sym (c.kept.identifiers room); denotations = nd.denotations ∙ sym (c.kept.denotations room) })
        (record { identifiers = nd.identifiers ∙ sym (c.kept.identifiers room); activities = refl })
        (omega (arith, room, c.kept.size))

    step : (B : World) → Named d t₀ n B → Awake d t₀ n B → 16 * n ≤ length t₀
        → set_from k x s (length s) from B ≡ bind (outcome b (awake u n B)) λ _ v. onward (next_in k s l.to) (λ e. set_from k x s (length s - (i + 1)) e) v
    step B nd aw room =
        let q : length s - (i + 1) ≡ turns - 1 = omega arith in
        rw q (c.is B nd aw room ∙ set_name k x s turns at (awake t n B) (omega arith) l.to name_end_lem (folded mixed (part (l.to - l.from) l.from s)) name_spelled
        ∙ ap (λ (r : Res Why (Unit {0})). bind r λ _ v. onward (next_in k s l.to) (λ e. set_from k x s (turns - 1) e) v) (first B nd aw room))

    pub setting_wrong : b ≡ false → SetsAll d s t₀ u n from k x false
    setting_wrong g = record { kept = both_kept; does = record { is = λ B nd aw room. rw g at (step B nd aw room) } }

    module _ (g : b ≡ true) (f : Option ℕ) (hf : f ≡ next_in k s l.to) where
      pub setting_end : f ≡ None → SetsAll d s t₀ u n from k x true
      setting_end e = record { kept = both_kept; does = record { is = λ B nd aw room. rw (g, ← hf, e) at (step B nd aw room) } }

      pub setting_on : (q : ℕ) → f ≡ Some q → Setting d s t₀ n k x from u q (i + 1)
      setting_on q e = record { kept = both_kept; is = λ B nd aw room. rw (g, ← hf, e) at (step B nd aw room) }
