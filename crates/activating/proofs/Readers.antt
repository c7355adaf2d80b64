-- The names that are set, one after the other, are those of the statement as the definition reads it.
-- Assumes nothing.
use mathlib.Core.Path.{◌≡◌, refl, sym, ap, ◌∙◌, subst}
use mathlib.Core.Bool.{Bool, true, false, cond, ◌||◌, false≢true}
use mathlib.Core.List.{List, [], ◌∷◌, ◌++◌, append_assoc, append-nil}
use Prim.Native.Nat.{ℕ, zero, suc, ◌+◌, ◌-◌, ◌<◌, ◌≤◌}
use Prim.Native.String.{String}
use native.Mathlib.Omega.{arith}
use Rattle.std.specs.Prelude.{Option, Some, None}
use lib.ListN.{length}
use Rattle.definition.specs.Bytes.{mixed}
use Rattle.definition.specs.Choice.{when}
use Rattle.definition.specs.Tokens as Tk
use Rattle.definition.specs.Tokens.{Token, is_word, is_sign, token_at}
use Rattle.definition.specs.Expressions.{Reading, read, refused, then, Named, name_of, name_at, expect_sign}
use Rattle.definition.specs.Program as P
use Rattle.definition.specs.Statements as D
use Rattle.definition.specs.Reading.{spelled}
use Rattle.definition.specs.World as W
use Rattle.definition.specs.World.{World, Res, good, bad, bind}
use Rattle.definition.specs.Run.{activate_name, activate_all, activations}
use Rattle.definition.specs.declared.Why.{Why}
use Rattle.definition.specs.declared.Why.TheVariants.{Syntax}
use Rattle.definition.proofs.Choices.{when_has}
use Rattle.definition.proofs.Ends.{Real}
use Rattle.names.specs.declared.Activity.{Activity}
use Rattle.names.specs.declared.Activity.TheVariants.{Inactive, Rescanned}
use Rattle.names.specs.Table.{activity_of}
use Rattle.callees.specs.Answer.{spelled_at}
use Rattle.callees.proofs.Listing.{name_is}
use Rattle.reading.proofs.Places.{token_on}
use Rattle.statements.specs.Clauses.{rescan_past}
use Rattle.statements.proofs.Laws.{word_spelled}
use Rattle.activating.specs.declared.Listed.{Listed}
use Rattle.activating.specs.declared.Listed.TheVariants.{Plainly, WithRescan, WithAttributes}
use Rattle.activating.specs.Lists.{past_sign, behind_comma, declared_next, next_in, activity_behind, onward, name_end, set_from}
use Rattle.activating.specs.Sets.{SetsAll, DeclaresAll, ActivatesAll, DeactivatesAll}
use Rattle.activating.proofs.Walks.{set_from_lem, set_name}

abbrev Run : Type 0
Run = World → Res Why (Unit {0})

bind_same : (r : Res Why (Unit {0})) (f g : World → Res Why (Unit {0})) → ((v : World) → f v ≡ g v) → ◌≡◌ {A = Res Why (Unit {0})} (bind r (λ _ v. f v)) (bind r (λ _ v. g v))
bind_same (good a w) f g h = h w
bind_same (bad e u) f g h = refl

-- ---- tokens
record Wordy (t : Token) : Type 0 where
  plain : (w : String) → is_sign w t ≡ false
  real : Real t

wordy : (w : List ℕ) → Wordy (Tk.word w)
wordy w = record { plain = λ _. refl; real = tt }

named_by : (t : Token) (from to : ℕ) (n : Named) → name_of t from to ≡ read n → Wordy t
named_by (Tk.word w) from to n e = wordy w
named_by (Tk.integer w) from to n e = absurd (let z : ◌≡◌ {A = ℕ} 0 1 = cc in omega arith)
named_by (Tk.string w) from to n e = absurd (let z : ◌≡◌ {A = ℕ} 0 1 = cc in omega arith)
named_by (Tk.bits w) from to n e = absurd (let z : ◌≡◌ {A = ℕ} 0 1 = cc in omega arith)
named_by (Tk.sign w) from to n e = absurd (let z : ◌≡◌ {A = ℕ} 0 1 = cc in omega arith)
named_by Tk.nothing from to n e = absurd (let z : ◌≡◌ {A = ℕ} 0 1 = cc in omega arith)
named_by Tk.wrong from to n e = absurd (let z : ◌≡◌ {A = ℕ} 0 1 = cc in omega arith)

word_by : (w : String) (t : Token) → is_word w t ≡ true → Wordy t
word_by w (Tk.word x) e = wordy x
word_by w (Tk.integer x) e = absurd (false≢true e)
word_by w (Tk.string x) e = absurd (false≢true e)
word_by w (Tk.bits x) e = absurd (false≢true e)
word_by w (Tk.sign x) e = absurd (false≢true e)
word_by w Tk.nothing e = absurd (false≢true e)
word_by w Tk.wrong e = absurd (false≢true e)

character_by : (t : Token) → D.is_character t ≡ true → Wordy t
character_by (Tk.word x) e = wordy x
character_by (Tk.integer x) e = absurd (false≢true e)
character_by (Tk.string x) e = absurd (false≢true e)
character_by (Tk.bits x) e = absurd (false≢true e)
character_by (Tk.sign x) e = absurd (false≢true e)
character_by Tk.nothing e = absurd (false≢true e)
character_by Tk.wrong e = absurd (false≢true e)

-- an attribute is a word
attribute_has : (Q : D.Declaring → Type 0) (k : P.Scope) (t : Token) (from to : ℕ) (found : P.Meaning → ℕ → D.Declaring) (absent : Unit {0} → D.Declaring)
    → (Wordy t → (m : P.Meaning) → Q (found m to)) → Q (absent tt) → Q (D.attribute k t from to found absent)
unfolding D.attribute
attribute_has Q P.global t from to found absent h i =
    when_has Q (D.is_character t) _ _ (λ e. h (character_by t e) _) λ _.
    when_has Q (is_word "FIXED" t) _ _ (λ e. h (word_by "FIXED" t e) _) λ _.
    when_has Q (is_word "ENTRY" t) _ absent (λ e. h (word_by "ENTRY" t e) _) λ _. i
attribute_has Q (P.inside r) t from to found absent h i =
    when_has Q (D.is_character t) _ _ (λ e. h (character_by t e) _) λ _.
    when_has Q (is_word "FIXED" t) _ _ (λ e. h (word_by "FIXED" t e) _) λ _.
    when_has Q (is_word "BUILTIN" t) _ absent (λ e. h (word_by "BUILTIN" t e) _) λ _. i

-- ---- what a reading says of its statement: S sets the names that it has behind xs
record Means {A : Type 0} (S : Run) (run : List A → Run) (make : List A → P.Statement) (xs : List A) (c : D.Clause) : Type 0 where
  names : List A
  is : c.statement ≡ make (xs ++ names)
  does : (w : World) → S w ≡ run names w

abbrev Held : {A : Type 0} → Run → (List A → Run) → (List A → P.Statement) → List A → Reading D.Clause → Type 0
Held S run make xs (refused w p) = Unit {0}
Held S run make xs (read c) = Means S run make xs c

after_held : {A B : Type 0} (S : Run) (run : List A → Run) (make : List A → P.Statement) (xs : List A) (R : Reading B) (F : B → Reading D.Clause)
    → ((b : B) → R ≡ read b → Held S run make xs (F b)) → Held S run make xs (then R F)
after_held S run make xs (read b) F h = h b refl
after_held S run make xs (refused w p) F h = tt

means_more : {A : Type 0} (S T : Run) (run : List A → Run) (make : List A → P.Statement) (xs ms : List A) (c : D.Clause)
    → ((ys : List A) → ((v : World) → T v ≡ run ys v) → (w : World) → S w ≡ run (ms ++ ys) w) → Means T run make (xs ++ ms) c → Means S run make xs c
means_more S T run make xs ms c h m = record { names = ms ++ m.names; is = m.is ∙ ap make (append_assoc xs ms m.names); does = h m.names m.does }

held_more : {A : Type 0} (S T : Run) (run : List A → Run) (make : List A → P.Statement) (xs ms : List A) (R : Reading D.Clause)
    → ((ys : List A) → ((v : World) → T v ≡ run ys v) → (w : World) → S w ≡ run (ms ++ ys) w) → Held T run make (xs ++ ms) R → Held S run make xs R
held_more S T run make xs ms (read c) h m = means_more S T run make xs ms c h m
held_more S T run make xs ms (refused w p) h m = tt

-- ---- a name of the list
module _ (s : List ℕ) where
  named_wordy : (at : ℕ) (n : Named) → name_at mixed s at ≡ read n → Wordy (token_at mixed s at).token
  unfolding name_at
  named_wordy at n e = named_by (token_at mixed s at).token (token_at mixed s at).from (token_at mixed s at).to n e

  not_open : (at : ℕ) → is_sign "(" (token_at mixed s at).token ≡ false → past_sign "(" s at ≡ at
  unfolding past_sign
  not_open at e = rw e

  step_name : (k : Listed) (x : Activity) (f at : ℕ) (n : Named) → name_at mixed s at ≡ read n → 0 < f → (w : World)
      → set_from k x s f at w ≡ bind (activate_name (activity_of (activity_behind k x s n.to)) n.spelling w) λ _ v. onward (next_in k s n.to) (λ e. set_from k x s (f - 1) e) v
  step_name k x f at n e h w =
      let q : past_sign "(" s at ≡ at = not_open at ((named_wordy at n e).plain "(") in
      set_name k x s f at w h n.to (ap (λ (z : ℕ). (token_at mixed s z).to) q ∙ sym (name_is s at n e).to) n.spelling (ap (λ (z : ℕ). spelled_at s z) q ∙ sym (name_is s at n e).spelling)

  -- ---- ACTIVATE and DEACTIVATE: names with commas between them
  module _ (k : Listed) (x : Activity) {A : Type 0} (run : List A → Run) (make : List A → P.Statement) (sets : A → W.Activity) (spells : A → List ℕ)
      (none : (w : World) → run [] w ≡ good tt w) (more : (a : A) (ys : List A) (w : World) → run (a ∷ ys) w ≡ bind (activate_name (sets a) (spells a) w) λ _ v. run ys v) where
    module _ (f : ℕ) (xs : List A) (at : ℕ) (n : Named) (h : name_at mixed s at ≡ read n) (a : A) (e : ℕ) (hs : spells a ≡ n.spelling)
        (ha : sets a ≡ activity_of (activity_behind k x s n.to)) (hn : next_in k s n.to ≡ behind_comma s e) where
      abbrev S : Run
      S w = set_from k x s (suc f) at w

      item : (w : World) → S w ≡ bind (activate_name (sets a) (spells a) w) λ _ v. onward (behind_comma s e) (λ q. set_from k x s f q) v
      item w = let z : suc f - 1 ≡ f = omega arith in step_name k x (suc f) at n h (omega arith) w ∙ rw (← hs, ← ha, hn, z)

      item_more : is_sign "," (token_at mixed s e).token ≡ true → (ys : List A) → ((v : World) → set_from k x s f (token_at mixed s e).to v ≡ run ys v) → (w : World) → S w ≡ run (a ∷ ys) w
      unfolding behind_comma
      item_more c ys g w =
          (rw c at (item w)) ∙ bind_same (activate_name (sets a) (spells a) w) (λ v. set_from k x s f (token_at mixed s e).to v) (λ v. run ys v) g ∙ sym (more a ys w)

      item_last : is_sign "," (token_at mixed s e).token ≡ false → (w : World) → S w ≡ run (a ∷ []) w
      unfolding behind_comma
      item_last c w =
          (rw c at (item w)) ∙ bind_same (activate_name (sets a) (spells a) w) (λ v. good tt v) (λ v. run [] v) (λ v. sym (none v)) ∙ sym (more a [] w)

      item_so : (R : Reading D.Clause) → Held (λ w. set_from k x s f (token_at mixed s e).to w) run make (xs ++ a ∷ []) R
          → Held S run make xs (when (is_sign "," (token_at mixed s e).token) (λ _. R) (λ _. D.ended mixed s (make (xs ++ a ∷ [])) e))
      unfolding D.ended
      item_so R g =
          when_has (λ (T : Reading D.Clause). Held S run make xs T) (is_sign "," (token_at mixed s e).token) (λ _. R) (λ _. D.ended mixed s (make (xs ++ a ∷ [])) e)
          (λ c. held_more S (λ w. set_from k x s f (token_at mixed s e).to w) run make xs (a ∷ []) R (item_more c) g)
          (λ c. after_held S run make xs (expect_sign mixed ";" s e) (λ q. read (D.clause (make (xs ++ a ∷ [])) D.opens_nothing q)) λ q _. record { names = a ∷ []; is = refl; does = item_last c })

  all_none : (x : W.Activity) (w : World) → activate_all x [] w ≡ good tt w
  unfolding activate_all
  all_none x w = refl

  all_more : (x : W.Activity) (n : List ℕ) (ns : List (List ℕ)) (w : World) → activate_all x (n ∷ ns) w ≡ bind (activate_name x n w) λ _ v. activate_all x ns v
  unfolding activate_all
  all_more x n ns w = refl

  names_so : (x : Activity) (make : List (List ℕ) → P.Statement) (f : ℕ) (xs : List (List ℕ)) (at : ℕ)
      → Held (λ w. set_from Plainly x s f at w) (λ ns w. activate_all (activity_of x) ns w) make xs (D.list_of mixed (D.each_name mixed) make s f xs at)
  unfolding D.list_of activity_behind next_in
  names_so x make zero xs at = tt
  names_so x make (suc f) xs at =
      after_held (λ w. set_from Plainly x s (suc f) at w) (λ ns w. activate_all (activity_of x) ns w) make xs (name_at mixed s at) _ λ n h.
      item_so Plainly x (λ ns w. activate_all (activity_of x) ns w) make (λ _. activity_of x) (λ l. l) (all_none (activity_of x)) (all_more (activity_of x)) f xs at n h n.spelling n.to refl refl refl
      (D.list_of mixed (D.each_name mixed) make s f (xs ++ n.spelling ∷ []) (token_at mixed s n.to).to) (names_so x make f (xs ++ n.spelling ∷ []) (token_at mixed s n.to).to)

  abbrev becomes : P.Activation → W.Activity
  becomes a = cond a.is_copied W.copied_only W.rescanned

  acts_none : (w : World) → activations [] w ≡ good tt w
  unfolding activations
  acts_none w = refl

  acts_more : (a : P.Activation) (ys : List P.Activation) (w : World) → activations (a ∷ ys) w ≡ bind (activate_name (becomes a) a.spelling w) λ _ v. activations ys v
  unfolding activations
  acts_more a ys w = refl

  either_place : (a b : Bool) (x y : ℕ) → cond (a || b) x y ≡ cond a x (cond b x y)
  either_place true b x y = refl
  either_place false b x y = refl

  past_is : (e : ℕ) → rescan_past s e ≡ cond (is_word "NORESCAN" (token_at mixed s e).token) (token_at mixed s e).to (cond (is_word "RESCAN" (token_at mixed s e).token) (token_at mixed s e).to e)
  unfolding rescan_past
  past_is e =
      rw (word_spelled "NORESCAN" (78 ∷ 79 ∷ 82 ∷ 69 ∷ 83 ∷ 67 ∷ 65 ∷ 78 ∷ []) refl (token_at mixed s e).token, word_spelled "RESCAN" (82 ∷ 69 ∷ 83 ∷ 67 ∷ 65 ∷ 78 ∷ []) refl (token_at mixed s e).token)
      (either_place (is_word "NORESCAN" (token_at mixed s e).token) (is_word "RESCAN" (token_at mixed s e).token) (token_at mixed s e).to e)

  acts_so : (make : List P.Activation → P.Statement) (f : ℕ) (xs : List P.Activation) (at : ℕ)
      → Held (λ w. set_from WithRescan Rescanned s f at w) (λ ys w. activations ys w) make xs (D.list_of mixed (D.each_activation mixed) make s f xs at)
  unfolding D.list_of activity_behind next_in
  acts_so make zero xs at = tt
  acts_so make (suc f) xs at =
      let S : Run = λ w. set_from WithRescan Rescanned s (suc f) at w in
      let run : List P.Activation → Run = λ ys w. activations ys w in
      let rest : P.Activation → ℕ → Reading D.Clause = λ a e. D.list_of mixed (D.each_activation mixed) make s f (xs ++ a ∷ []) (token_at mixed s e).to in
      let last : P.Activation → ℕ → Reading D.Clause = λ a e. when (is_sign "," (token_at mixed s e).token) (λ _. rest a e) (λ _. D.ended mixed s (make (xs ++ a ∷ [])) e) in
      after_held S run make xs (name_at mixed s at) (λ n. when (is_word "NORESCAN" (token_at mixed s n.to).token) (λ _. last (record { spelling = n.spelling; is_copied = true }) (token_at mixed s n.to).to) (λ _. when (is_word "RESCAN" (token_at mixed s n.to).token) (λ _. last (record { spelling = n.spelling; is_copied = false }) (token_at mixed s n.to).to) (λ _. last (record { spelling = n.spelling; is_copied = false }) n.to))) λ n h.
      let item : (a : P.Activation) (e : ℕ) → a.spelling ≡ n.spelling → becomes a ≡ activity_of (activity_behind WithRescan Rescanned s n.to) → next_in WithRescan s n.to ≡ behind_comma s e → Held S run make xs (last a e) =
      λ a e p q r. item_so WithRescan Rescanned run make becomes (λ y. y.spelling) acts_none acts_more f xs at n h a e p q r (rest a e) (acts_so make f (xs ++ a ∷ []) (token_at mixed s e).to) in
      let copied : P.Activation = record { spelling = n.spelling; is_copied = true } in
      let again : P.Activation = record { spelling = n.spelling; is_copied = false } in
      when_has (λ (T : Reading D.Clause). Held S run make xs T) (is_word "NORESCAN" (token_at mixed s n.to).token) _ _
      (λ c. item copied (token_at mixed s n.to).to refl (rw c) (rw (past_is n.to, c))) λ c.
      when_has (λ (T : Reading D.Clause). Held S run make xs T) (is_word "RESCAN" (token_at mixed s n.to).token) _ _
      (λ g. item again (token_at mixed s n.to).to refl (rw c) (rw (past_is n.to, c, g)))
      (λ g. item again n.to refl (rw c) (rw (past_is n.to, c, g)))

  -- ---- DECLARE
  next_comma : (e : ℕ) → is_sign "," (token_at mixed s e).token ≡ true → declared_next s e ≡ Some (token_at mixed s e).to
  unfolding declared_next
  next_comma e c = rw c

  next_close : (e : ℕ) → is_sign "," (token_at mixed s e).token ≡ false → is_sign ")" (token_at mixed s e).token ≡ true → declared_next s e ≡ behind_comma s (token_at mixed s (token_at mixed s e).to).to
  unfolding declared_next past_sign
  next_close e c d = rw (c, d)

  next_word : (e : ℕ) → Wordy (token_at mixed s e).token → declared_next s e ≡ behind_comma s (token_at mixed s e).to
  unfolding declared_next past_sign
  next_word e w = rw (w.plain ",", w.plain ")")

  comma_next : (e : ℕ) → is_sign "," (token_at mixed s e).token ≡ true → behind_comma s e ≡ Some (token_at mixed s e).to
  unfolding behind_comma
  comma_next e c = rw c

  comma_end : (e : ℕ) → is_sign "," (token_at mixed s e).token ≡ false → behind_comma s e ≡ None
  unfolding behind_comma
  comma_end e c = rw c

  close_read : (e q : ℕ) → expect_sign mixed ")" s e ≡ read q → (is_sign ")" (token_at mixed s e).token ≡ true) × ((token_at mixed s e).to ≡ q)
  unfolding expect_sign
  close_read e q h = by (is_sign ")" (token_at mixed s e).token) refl h
    where
      by : (b : Bool) → is_sign ")" (token_at mixed s e).token ≡ b → cond b (read (token_at mixed s e).to) (refused Syntax (token_at mixed s e).from) ≡ read q → (is_sign ")" (token_at mixed s e).token ≡ true) × ((token_at mixed s e).to ≡ q)
      by true i h = let z : (token_at mixed s e).to ≡ q = cc in (i, z)
      by false i h = let z : ◌≡◌ {A = ℕ} 0 1 = cc in absurd (omega arith)

  -- places only grow
  name_past : (at : ℕ) (n : Named) → name_at mixed s at ≡ read n → (at < n.to) × (n.to ≤ length s)
  name_past at n e =
      let w : Wordy (token_at mixed s at).token = named_wordy at n e in
      rw (name_is s at n e).to (omega (arith, (token_on s at).low, ((token_on s at).some w.real).0), ((token_on s at).some w.real).1)

  token_up : (e : ℕ) → e ≤ (token_at mixed s e).to
  token_up e = omega (arith, (token_on s e).low, (token_on s e).order)

  abbrev all : List (List ℕ) → Run
  all ns w = activate_all W.rescanned ns w

  abbrev sets : ℕ → ℕ → Run
  sets g at w = set_from WithAttributes Rescanned s g at w

  -- behind names whose attribute is the token behind e
  abbrev rest : ℕ → ℕ → Run
  rest g e w = onward (behind_comma s (token_at mixed s e).to) (λ q. sets g q) w

  -- S sets these names, and then does what T does
  abbrev Leads : Run → Run → List (List ℕ) → Type 0
  Leads S T ms = (ys : List (List ℕ)) → ((v : World) → T v ≡ all ys v) → (w : World) → S w ≡ all (ms ++ ys) w

  lead_one : (g at : ℕ) (n : Named) → name_at mixed s at ≡ read n → 0 < g → (T U : Run) (ms : List (List ℕ)) (x : Option ℕ) → declared_next s n.to ≡ x → ((v : World) → onward x (λ e. sets (g - 1) e) v ≡ T v)
      → Leads T U ms → Leads (sets g at) U (n.spelling ∷ ms)
  unfolding activity_behind next_in
  lead_one g at n e h T U ms x p q l = λ ys i w.
      step_name WithAttributes Rescanned g at n e h w
      ∙ ap (λ (z : Option ℕ). bind (activate_name W.rescanned n.spelling w) λ _ v. onward z (λ y. sets (g - 1) y) v) p
      ∙ bind_same (activate_name W.rescanned n.spelling w) (λ v. onward x (λ y. sets (g - 1) y) v) (λ v. all (ms ++ ys) v) (λ v. q v ∙ l ys i v)
      ∙ sym (all_more W.rescanned n.spelling (ms ++ ys) w)

  past_same : (at : ℕ) → is_sign "(" (token_at mixed s at).token ≡ true → is_sign "(" (token_at mixed s (token_at mixed s at).to).token ≡ false → past_sign "(" s at ≡ past_sign "(" s (token_at mixed s at).to
  unfolding past_sign
  past_same at o c = rw (o, c)

  open_same : (g at : ℕ) → past_sign "(" s at ≡ past_sign "(" s (token_at mixed s at).to → (w : World) → sets g at w ≡ sets g (token_at mixed s at).to w
  unfolding set_from
  open_same zero at p w = refl
  open_same (suc g) at p w =
      set_name WithAttributes Rescanned s (suc g) at w (omega arith) (name_end s (token_at mixed s at).to) (ap (λ (z : ℕ). (token_at mixed s z).to) p) (spelled_at s (past_sign "(" s (token_at mixed s at).to)) (ap (λ (z : ℕ). spelled_at s z) p)
      ∙ sym (set_from_lem WithAttributes Rescanned s (suc g) (token_at mixed s at).to w (omega arith))

  abbrev HeldD : Run → List (List ℕ) → D.Declaring → Type 0
  HeldD S xs (D.declared c ds) = Means S all P.declare xs c
  HeldD S xs (D.undeclared w p ds) = Unit {0}

  after_declared : {A : Type 0} (S : Run) (xs : List (List ℕ)) (ds : List P.Declared) (R : Reading A) (F : A → D.Declaring) → ((a : A) → R ≡ read a → HeldD S xs (F a)) → HeldD S xs (D.then_declare ds R F)
  after_declared S xs ds (read a) F h = h a refl
  after_declared S xs ds (refused w p) F h = tt

  declared_more : (S T : Run) (xs ms : List (List ℕ)) (R : D.Declaring) → Leads S T ms → HeldD T (xs ++ ms) R → HeldD S xs R
  declared_more S T xs ms (D.declared c ds) h m = means_more S T all P.declare xs ms c h m
  declared_more S T xs ms (D.undeclared w p ds) h m = tt

  module _ (k : P.Scope) where
    spellings_means : (m : P.Meaning) (ns : List Named) → D.spellings (D.means k m ns) ≡ spelled ns
    spellings_means m [] = refl
    spellings_means m (n ∷ ns) = ap (λ (l : List (List ℕ)). n.spelling ∷ l) (spellings_means m ns)

    spellings_more : (ds : List P.Declared) (m : P.Meaning) (ns : List Named) → D.spellings (ds ++ D.means k m ns) ≡ D.spellings ds ++ spelled ns
    spellings_more [] m ns = spellings_means m ns
    spellings_more (d ∷ ds) m ns = ap (λ (l : List (List ℕ)). d.spelling ∷ l) (spellings_more ds m ns)

    -- names in parentheses
    list_so : (m : P.Meaning) (ds : List P.Declared) (f : ℕ) (ns : List Named) (at g : ℕ) → length s ≤ g + at → (S : Run) (xs : List (List ℕ)) (K : List Named → ℕ → D.Declaring)
        → ((ms : List Named) (e j : ℕ) → length s ≤ j + e → is_sign "(" (token_at mixed s at).token ≡ false → Leads (sets g at) (rest j e) (spelled ms) → HeldD S xs (K (ns ++ ms) e))
        → HeldD S xs (D.names_at mixed k m s ds f ns at K)
    unfolding D.names_at
    list_so m ds zero ns at g p S xs K h = tt
    list_so m ds (suc f) ns at g p S xs K h =
        after_declared S xs (ds ++ D.means k m ns) (name_at mixed s at) _ λ n i.
        let q : (at < n.to) × (n.to ≤ length s) = name_past at n i in
        let low : 0 < g = omega (arith, p, q.0, q.1) in
        let o : is_sign "(" (token_at mixed s at).token ≡ false = (named_wordy at n i).plain "(" in
        when_has (λ (T : D.Declaring). HeldD S xs T) (is_sign "," (token_at mixed s n.to).token) (λ _. D.names_at mixed k m s ds f (ns ++ n ∷ []) (token_at mixed s n.to).to K) _
        (λ c. list_so m ds f (ns ++ n ∷ []) (token_at mixed s n.to).to (g - 1) (omega (arith, p, q.0, low, token_up n.to)) S xs K λ ms e j r _ l.
        subst (λ (zs : List Named). HeldD S xs (K zs e)) (sym (append_assoc ns (n ∷ []) ms))
        (h (n ∷ ms) e j r o (lead_one g at n i low (λ v. sets (g - 1) (token_at mixed s n.to).to v) (λ v. rest j e v) (spelled ms) (Some (token_at mixed s n.to).to) (next_comma n.to c) (λ v. refl) l))) λ c.
        after_declared S xs (ds ++ D.means k m (ns ++ n ∷ [])) (expect_sign mixed ")" s n.to) (λ e. K (ns ++ n ∷ []) e) λ e l.
        let z : (is_sign ")" (token_at mixed s n.to).token ≡ true) × ((token_at mixed s n.to).to ≡ e) = close_read n.to e l in
        h (n ∷ []) e (g - 1) (omega (arith, p, q.0, low, token_up n.to, z.1)) o
        (lead_one g at n i low (λ v. rest (g - 1) e v) (λ v. rest (g - 1) e v) [] (behind_comma s (token_at mixed s e).to) (rw z.1 at (next_close n.to c z.0)) (λ v. refl) (λ ys y w. y w))

    -- names with their attribute, and what follows
    behind_so : (again : List P.Declared → ℕ → D.Declaring) (ds : List P.Declared) (ns : List Named) (e j : ℕ) → length s ≤ j + e → (S : Run) → (Wordy (token_at mixed s e).token → Leads S (rest j e) (spelled ns))
        → ((es : List P.Declared) (at : ℕ) → length s ≤ j + at → HeldD (sets j at) (D.spellings es) (again es at)) → HeldD S (D.spellings ds) (D.declare_names mixed k s ds ns e (D.declare_next mixed s again))
    unfolding D.declare_names D.declare_next
    behind_so again ds ns e j p S l ih =
        attribute_has (λ (T : D.Declaring). HeldD S (D.spellings ds) T) k (token_at mixed s e).token (token_at mixed s e).from (token_at mixed s e).to (λ m to. D.declare_next mixed s again (ds ++ D.means k m ns) to) _ (λ wd m.
        let es : List P.Declared = ds ++ D.means k m ns in
        let to : ℕ = (token_at mixed s e).to in
        let sp : D.spellings es ≡ D.spellings ds ++ spelled ns = spellings_more ds m ns in
        when_has (λ (T : D.Declaring). HeldD S (D.spellings ds) T) (is_sign "," (token_at mixed s to).token) (λ _. again es (token_at mixed s to).to) _
        (λ c. declared_more S (λ v. sets j (token_at mixed s to).to v) (D.spellings ds) (spelled ns) (again es (token_at mixed s to).to)
        (λ ys y w. l wd ys (λ v. ap (λ (z : Option ℕ). onward z (λ q. sets j q) v) (comma_next to c) ∙ y v) w)
        (subst (λ (zs : List (List ℕ)). HeldD (λ v. sets j (token_at mixed s to).to v) zs (again es (token_at mixed s to).to)) sp (ih es (token_at mixed s to).to (omega (arith, p, token_up e, token_up to))))) λ c.
        after_declared S (D.spellings ds) es (expect_sign mixed ";" s to) (λ q. D.declared (D.clause (P.declare (D.spellings es)) D.opens_nothing q) es) λ q _.
        record {
          names = spelled ns;
          is = ap P.declare sp;
          does = λ w. l wd [] (λ v. ap (λ (z : Option ℕ). onward z (λ y. sets j y) v) (comma_end to c) ∙ sym (all_none W.rescanned v)) w ∙ ap (λ (zs : List (List ℕ)). all zs w) (append-nil (spelled ns));
        }) tt

    declare_so : (f : ℕ) (ds : List P.Declared) (at g : ℕ) → length s ≤ g + at → HeldD (sets g at) (D.spellings ds) (D.declare_from mixed k s f ds at)
    unfolding D.declare_from
    declare_so zero ds at g p = tt
    declare_so (suc f) ds at g p =
        when_has (λ (T : D.Declaring). HeldD (λ v. sets g at v) (D.spellings ds) T) (is_sign "(" (token_at mixed s at).token) _ _
        (λ o. list_so _ ds (length s) [] (token_at mixed s at).to g (omega (arith, p, token_up at)) (λ v. sets g at v) (D.spellings ds) (λ ns e. D.declare_names mixed k s ds ns e (D.declare_next mixed s (D.declare_from mixed k s f))) λ ms e j r c l.
        behind_so (D.declare_from mixed k s f) ds ms e j r (λ v. sets g at v) (λ _ ys y w. open_same g at (past_same at o c) w ∙ l ys y w) (λ es q z. declare_so f es q j z)) λ o.
        after_declared (λ v. sets g at v) (D.spellings ds) ds (name_at mixed s at) (λ n. D.declare_names mixed k s ds (n ∷ []) n.to (D.declare_next mixed s (D.declare_from mixed k s f))) λ n i.
        let q : (at < n.to) × (n.to ≤ length s) = name_past at n i in
        let low : 0 < g = omega (arith, p, q.0, q.1) in
        behind_so (D.declare_from mixed k s f) ds (n ∷ []) n.to (g - 1) (omega (arith, p, q.0, low)) (λ v. sets g at v)
        (λ wd. lead_one g at n i low (λ v. rest (g - 1) n.to v) (λ v. rest (g - 1) n.to v) [] (behind_comma s (token_at mixed s n.to).to) (next_word n.to wd) (λ v. refl) (λ ys y w. y w))
        (λ es z y. declare_so f es z (g - 1) y)

-- ---- the statements
declare_same : (a b : List (List ℕ)) → P.declare a ≡ P.declare b → a ≡ b
declare_same a b e = let z : a ≡ b = cc in z

activate_same : (a b : List P.Activation) → P.activate a ≡ P.activate b → a ≡ b
activate_same a b e = let z : a ≡ b = cc in z

deactivate_same : (a b : List (List ℕ)) → P.deactivate a ≡ P.deactivate b → a ≡ b
deactivate_same a b e = let z : a ≡ b = cc in z

module _ (d s t u : List ℕ) (n from : ℕ) (r : Bool) where
  pub declares : SetsAll d s t u n from WithAttributes Rescanned r → DeclaresAll d s t u n from r
  declares a = record {
    kept = a.kept;
    does = λ k c ds ns e f.
        let m : Means (λ w. set_from WithAttributes Rescanned s (length s) from w) (λ ys w. activate_all W.rescanned ys w) P.declare [] c =
        subst (λ (R : D.Declaring). HeldD s (λ w. set_from WithAttributes Rescanned s (length s) from w) [] R) e (declare_so s k (length s) [] from (length s) (omega arith)) in
        record { is = λ B nd aw room. rw (declare_same ns m.names (sym f ∙ m.is)) (sym (m.does B) ∙ a.does.is B nd aw room) };
  }

  pub activates : SetsAll d s t u n from WithRescan Rescanned r → ActivatesAll d s t u n from r
  unfolding D.activate_clause
  activates a = record {
    kept = a.kept;
    does = λ c xs e f.
        let m : Means (λ w. set_from WithRescan Rescanned s (length s) from w) (λ ys w. activations ys w) P.activate [] c =
        subst (λ (R : Reading D.Clause). Held (λ w. set_from WithRescan Rescanned s (length s) from w) (λ ys w. activations ys w) P.activate [] R) e (acts_so s P.activate (length s) [] from) in
        record { is = λ B nd aw room. rw (activate_same xs m.names (sym f ∙ m.is)) (sym (m.does B) ∙ a.does.is B nd aw room) };
  }

  pub deactivates : SetsAll d s t u n from Plainly Inactive r → DeactivatesAll d s t u n from r
  unfolding D.deactivate_clause
  deactivates a = record {
    kept = a.kept;
    does = λ c ns e f.
        let m : Means (λ w. set_from Plainly Inactive s (length s) from w) (λ ys w. activate_all W.inactive ys w) P.deactivate [] c =
        subst (λ (R : Reading D.Clause). Held (λ w. set_from Plainly Inactive s (length s) from w) (λ ys w. activate_all W.inactive ys w) P.deactivate [] R) e (names_so s Inactive P.deactivate (length s) [] from) in
        record { is = λ B nd aw room. rw (deactivate_same ns m.names (sym f ∙ m.is)) (sym (m.does B) ∙ a.does.is B nd aw room) };
  }
