-- A deck without lower-case letters outside strings and comments keeps its answer, text and list.
-- Assumes nothing.
use Prim.Native.Nat.{ℕ, zero, suc, ◌+◌, ◌-◌, ◌<◌}
use Prim.Native.Char.{code}
use native.Mathlib.Omega.{arith}
use mathlib.Core.Bool.{true, false, ◌&&◌}
use mathlib.Core.List.{List, [], ◌∷◌}
use mathlib.Core.Path.{◌≡◌, refl, sym, ap, subst, ◌∙◌}
use lib.Dec.{leb, eqb}
use lib.ListN.{length, get_or, drop}
use Rattle.definition.specs.declared.Layout.TheVariants.{Plain as plain, Cards as cards}
use Rattle.definition.specs.declared.Why.{Why}
use Rattle.definition.specs.declared.Why.TheVariants.{MalformedDeck as malformed_deck}
use Rattle.definition.specs.Refusal.{number_of}
use Rattle.definition.specs.Bytes.{Letters, capitals, mixed, is_blank}
use Rattle.definition.specs.Limits.{include_levels, value_length, unfinished_bytes, replacement_levels}
use Rattle.definition.specs.Lists.{part, leading}
use Rattle.definition.specs.Tokens.{Cut, piece_at}
use Rattle.definition.specs.Deck as Deck
use Rattle.definition.specs.Deck.{is_sound}
use Rattle.definition.specs.Cards.{uneven, joined}
use Rattle.definition.specs.Expressions.{Tree}
use Rattle.definition.specs.Program.{Stretch, Statement, null, declare, procedure, assign, conditional, group, iterated, goto, include, activate, deactivate, return, Source}
use Rattle.definition.specs.Reading.{read_member}
use Rattle.definition.specs.Events.{blank}
use Rattle.definition.specs.Values.{Value, characters, to_characters, convert, size_of}
use Rattle.definition.specs.World as W
use Rattle.definition.specs.World.{Denotation, variable_of, entry_of, label_at, builtin_name, Cell, Activity, inactive, rescanned, copied_only, Pass, began, World, Res, good, bad, bind, placed, ask, charge, denotation, value_at, row_of}
use Rattle.definition.specs.Evaluate.{Parameter, Callee, callee, put}
use Rattle.definition.specs.Names.{Entering, entered, unreadable, enter}
use Rattle.definition.specs.Flow.{Deed, End, ran, returned, went, Machine}
use Rattle.definition.specs.Calls.{Place, call_out, first_of}
use Rattle.definition.specs.Scan.{Into, to_work, fits, after, waiting, Scanner, outcome, Argument, Arguments, list_up_to, no_list, cut_on, list_at, scan_arguments, Replaced, Replacer, up_to, call_with, with_list, replace_entry, replace_cell, replace_as, Active, not_active, active, active_in, token, scan_on, scan_with, replacer}
use Rattle.definition.specs.Run.{Stop, stop, body_of, put_out, copy_here, replace_here, token_here, text_on, text_out, Inner, Level, no_level, level, came_out, include_entered, include_at, include_all, act_as, member_machine, run_source, run_member}
use Rattle.definition.specs.Expansion.{result, run_main, world_for, told, expansion, run_cards, cards_in, expansion_of}
use Rattle.definition.proofs.Choices.{when_both, when_by, when_has}
use Rattle.definition.proofs.Keeping.{and_left}
use Rattle.definition.proofs.Follows.{none_extra, Follows, bind_follows, goes, halts, lacks, Same, same, lead_follows, run_on_follows}
use Rattle.definition.proofs.Joined.{sound_parts, sound_joined, length_lines}
use Rattle.definition.proofs.Texts.{TextOf, first, behind, leading as leading_in, text_has}
use Rattle.promises.specs.LowerCase.{is_bare, are_bare, BareSources, scan_but, replacer_but, replace_here_but, token_here_but, text_on_but, text_out_but, machine_but, run_source_but, run_but, main_but, KeepsCase}
use Rattle.promises.proofs.Deck.{find_range}
use Rattle.promises.proofs.Unread.{Never, even, G₀, same_world}
use Rattle.promises.proofs.Bare.{Clear, at_start, plain_by, plain_on, run_clear, blank_plain, Pieces, pieces, piece_same, BareText, member_same}
use Rattle.promises.proofs.BareNames.{sound_same, find_same, joined_bare}

-- ---- the run with the bar gives what the other gives, with a property, or ends at the bar
data Kept {E A : Type 0} (Bar : E → Type 0) (Q : A → Type 0) : Res E A → Res E A → Type 0 where
  well : {a : A} {w : World} → Q a → Kept Bar Q (good a w) (good a w)
  ill : {e : E} {u : ℕ} → Kept Bar Q (bad e u) (bad e u)
  barred : {e : E} {u : ℕ} {s : Res E A} → Bar e → Kept Bar Q (bad e u) s

abbrev Any : {A : Type 0} → A → Type 0
Any a = Unit {0}

abbrev Bar : Why → Type 0
Bar e = e ≡ malformed_deck

abbrev BarAt : Stop → Type 0
BarAt s = s.why ≡ malformed_deck

itself : {E A : Type 0} {Z : E → Type 0} (r : Res E A) → Kept Z Any r r
itself (good a w) = well tt
itself (bad e u) = ill

bind_kept : {E A B : Type 0} {Z : E → Type 0} {Q : A → Type 0} {R : B → Type 0} {r s : Res E A} (f g : A → World → Res E B) → Kept Z Q r s → ((a : A) (w : World) → Q a → Kept Z R (f a w) (g a w)) → Kept Z R (bind r f) (bind s g)
bind_kept f g (well {a} {w} q) k = k a w q
bind_kept f g ill k = ill
bind_kept f g (barred h) k = barred h

placed_kept : {A : Type 0} {Q : A → Type 0} {r s : Res Why A} (m p : ℕ) → Kept Bar Q r s → Kept BarAt Q (placed (stop m p) r) (placed (stop m p) s)
placed_kept m p (well q) = well q
placed_kept m p ill = ill
placed_kept m p (barred h) = barred h

-- ---- with the letters α, which are either
both_pieces : {t : List ℕ} {c d : Cut} → Pieces t c d → (d ≡ c) × Clear t c.to
both_pieces (pieces k) = (refl, k)

same_piece : (α : Letters) (t : List ℕ) (p : ℕ) → Clear t p → (piece_at α t p ≡ piece_at mixed t p) × Clear t (piece_at mixed t p).to
same_piece mixed t p h = (refl, (both_pieces (piece_same t p h)).1)
same_piece capitals t p h = both_pieces (piece_same t p h)

-- a mark of an argument list
mark_on : (c : ℕ) (t : List ℕ) (p : ℕ) → eqb (code "'") c ≡ false → eqb (code "/") c ≡ false → eqb (get_or t p 0) c ≡ true → Clear t p → Clear t (p + 1)
mark_on c t p n m e h = plain_on t p (plain_by (λ x. eqb x c) n m (get_or t p 0) e) h

data Lists (t : List ℕ) : Arguments → Arguments → Type 0 where
  lists : {xs : List Argument} {q : ℕ} → Clear t q → Lists t (list_up_to xs q) (list_up_to xs q)
  no_list_lem : Lists t no_list no_list

module _ (α : Letters) where
  -- ---- argument lists
  cut_on_lem : (f : ℕ) (t : List ℕ) (d from : ℕ) (xs : List Argument) (p : ℕ) → Clear t p → Lists t (cut_on mixed f t d from xs p) (cut_on α f t d from xs p)
  unfolding cut_on
  cut_on_lem zero t d from xs p h = no_list_lem
  cut_on_lem (suc f) t d from xs p h =
      let b : ℕ = get_or t p 0 in
      when_both (Lists t) (leb (length t) p) _ _ _ _ no_list_lem
      (when_by (Lists t) (eqb b (code "(")) _ _ _ _ (λ e. cut_on_lem f t (suc d) from xs (p + 1) (mark_on (code "(") t p refl refl e h))
      λ _. when_by (Lists t) (eqb b (code ")") && eqb d 0) _ _ _ _ (λ e. lists (mark_on (code ")") t p refl refl (and_left (eqb b (code ")")) (eqb d 0) e) h))
      λ _. when_by (Lists t) (eqb b (code ")")) _ _ _ _ (λ e. cut_on_lem f t (d - 1) from xs (p + 1) (mark_on (code ")") t p refl refl e h))
      λ _. when_by (Lists t) (eqb b (code ",") && eqb d 0) _ _ _ _ (λ e. cut_on_lem f t d (p + 1) _ (p + 1) (mark_on (code ",") t p refl refl (and_left (eqb b (code ",")) (eqb d 0) e) h))
      λ _. rw (same_piece α t p h).0 (cut_on_lem f t d from xs (piece_at mixed t p).to (same_piece α t p h).1))

  list_at_lem : (t : List ℕ) (p : ℕ) → Clear t p → Lists t (list_at mixed t p) (list_at α t p)
  unfolding list_at
  list_at_lem t p h =
      let q : ℕ = p + length (leading is_blank (drop p t)) in
      when_by (Lists t) (eqb (get_or t q 0) (code "(")) _ _ _ _
      (λ e. cut_on_lem (length t) t 0 (q + 1) [] (q + 1) (mark_on (code "(") t q refl refl e (run_clear is_blank blank_plain t (drop p t) p refl h))) λ _. no_list_lem

  -- ---- values and arguments
  abbrev Scans : Scanner → Scanner → Type 0
  Scans x y = (i : Into) (t : List ℕ) (u : ℕ) (w : World) → Kept Bar Any (x i t u w) (y i t u w)

  abbrev Goes : List ℕ → Res Why Replaced → Res Why Replaced → Type 0
  Goes t r s = Kept Bar (λ (x : Replaced). Clear t x.to) r s

  abbrev Replaces : Replacer → Replacer → Type 0
  Replaces x y = (t : List ℕ) (p a : ℕ) (act : Activity) (i : Into) (u : ℕ) (w : World) → Clear t p → Goes t (x t p a act i u w) (y t p a act i u w)

  up_to_lem : (t : List ℕ) (p : ℕ) {r s : Res Why (List ℕ)} → Clear t p → Kept Bar Any r s → Goes t (up_to p r) (up_to p s)
  up_to_lem t p h k = bind_kept _ _ k λ l w _. well h

  module _ (x y : Scanner) (k : Scans x y) where
    outcome_kept : (act : Activity) (i : Into) (u : ℕ) (l : List ℕ) (w : World) → Kept Bar Any (outcome act x i u l w) (outcome act y i u l w)
    outcome_kept inactive i u l w = well tt
    outcome_kept rescanned i u l w = when_both (Kept Bar Any) (leb (u + length l) unfinished_bytes) _ _ _ _ (k i l (u + length l) w) ill
    outcome_kept copied_only i u l w = itself _

    arguments_kept : (t : List ℕ) (ps : List Parameter) (xs : List Argument) (u : ℕ) (w : World) → Kept Bar Any (scan_arguments x t ps xs u w) (scan_arguments y t ps xs u w)
    unfolding scan_arguments
    arguments_kept t [] xs u w = well tt
    arguments_kept t (p ∷ ps) [] u w = well tt
    arguments_kept t (p ∷ ps) (a ∷ xs) u w =
        bind_kept _ _ (k (to_work value_length) _ u w) λ l v _. bind_kept _ _ (itself (put u (convert p.type (characters l)) v)) λ z q _.
        bind_kept _ _ (arguments_kept t ps xs (u + size_of z) q) λ zs r _. well tt

    module _ (act : Activity) (i : Into) (u : ℕ) (t : List ℕ) where
      call_kept : (c : Callee) (vs : List Value) (w : World) → Kept Bar Any (call_with call_out x act i u c vs w) (call_with call_out y act i u c vs w)
      unfolding call_with
      call_kept c vs w = bind_kept _ _ (itself (call_out c vs u w)) λ v z _. outcome_kept act i u (to_characters v) z

      list_kept : (c : Callee) {l m : Arguments} (w : World) → Lists t l m → Goes t (with_list call_out x t act i u c l w) (with_list call_out y t act i u c m w)
      list_kept c w no_list_lem = ill
      list_kept c w (lists {xs} {q} h) =
          when_both (Goes t) (eqb (length xs) (length c.parameters)) _ _ _ _
          (bind_kept _ _ (arguments_kept t c.parameters xs u w) λ vs z _. up_to_lem t q h (call_kept c vs z)) ill

      entry_kept : (p : ℕ) (c : Callee) (w : World) → Clear t p → Goes t (replace_entry mixed call_out x t p act i u c w) (replace_entry α call_out y t p act i u c w)
      unfolding replace_entry
      entry_kept p c w h = when_both (Goes t) (eqb (length c.parameters) 0) _ _ _ _ (up_to_lem t p h (call_kept c [] w)) (list_kept c w (list_at_lem t p h))

      cell_kept : (c : Cell) (p : ℕ) (w : World) → Clear t p → Goes t (replace_cell c x p act i u w) (replace_cell c y p act i u w)
      cell_kept W.no_value p w h = ill
      cell_kept (W.holds v) p w h = up_to_lem t p h (outcome_kept act i u (to_characters v) w)

      as_kept : (d : Denotation) (p a : ℕ) (w : World) → Clear t p → Goes t (replace_as mixed d call_out x t p a act i u w) (replace_as α d call_out y t p a act i u w)
      as_kept (variable_of k) p a w h = cell_kept (value_at a w) p w h
      as_kept (entry_of e b) p a w h = bind_kept _ _ (itself (ask (callee b w) w)) λ c v _. entry_kept p c v h
      as_kept (label_at m r z) p a w h = ill
      as_kept builtin_name p a w h = ill

  module _ (x y : Replacer) (k : Replaces x y) (i : Into) (t : List ℕ) (u : ℕ) where
    token_kept : (c : Active) (out : List ℕ) (p q : ℕ) (w : World) (f g : List ℕ → ℕ → World → Res Why (List ℕ)) → Clear t q → ((o : List ℕ) (q : ℕ) (w : World) → Clear t q → Kept Bar Any (f o q w) (g o q w)) → Kept Bar Any (token c x i t out u p q w f) (token c y i t out u p q w g)
    token_kept not_active out p q w f g h j = when_both (Kept Bar Any) (fits i u (length out) (q - p)) _ _ _ _ (j _ q w h) ill
    token_kept (active a act) out p q w f g h j = bind_kept _ _ (k t q a act (after i (length out)) (waiting i u (length out)) w h) λ r v z. j _ r.to v z

    scan_kept : (f : ℕ) (out : List ℕ) (p : ℕ) (w : World) → Clear t p → Kept Bar Any (scan_on mixed x i t u f out p w) (scan_on α y i t u f out p w)
    unfolding scan_on
    scan_kept zero out p w h = well tt
    scan_kept (suc f) out p w h = rw (same_piece α t p h).0 (when_both (Kept Bar Any) (leb (length t) p) _ _ _ _ (well tt)
        (bind_kept _ _ (itself (charge w)) λ _ v _. token_kept (active_in (piece_at mixed t p).piece v) out p (piece_at mixed t p).to v _ _ (same_piece α t p h).1 (λ o q z e. scan_kept f o q z e)))

  replacer_kept : (n : ℕ) → Replaces (replacer_but n) (replacer α call_out n)
  unfolding replacer_but replacer
  replacer_kept zero t p a act i u w h = ill
  replacer_kept (suc n) t p a act i u w h =
      as_kept (scan_but (replacer_but n)) (scan_with α (replacer α call_out n))
      (λ j s v z. when_has (λ r. Kept Bar Any r (scan_with α (replacer α call_out n) j s v z)) (is_bare s) _ _ (λ e. scan_kept (replacer_but n) (replacer α call_out n) (replacer_kept n) j s v (suc (length s)) [] 0 z (at_start s e)) λ _. barred refl)
      act i u t (denotation a w) p a w h

  -- ---- program text
  here_kept : (m place : ℕ) (t : List ℕ) (q a : ℕ) (act : Activity) (g : List ℕ → ℕ → Pass) (w : World) → Clear t q → Kept Bar (Clear t) (replace_here_but m place t q a act g w) (replace_here α m place t q a act g w)
  unfolding replace_here_but replace_here
  here_kept m place t q a act g w h = when_both (Kept Bar (Clear t)) (leb 1 w.lines_left) _ _ _ _ (bind_kept _ _ (replacer_kept replacement_levels t q a act _ 0 w h) λ r v z. well z) ill

  token_here_lem : (c : Active) (m place : ℕ) (t : List ℕ) (p q : ℕ) (g : List ℕ → ℕ → Pass) (w : World) → Clear t q → Kept Bar (Clear t) (token_here_but c m place t p q g w) (token_here α c m place t p q g w)
  token_here_lem not_active m place t p q g w h = bind_kept _ _ (itself (copy_here m place (part (q - p) p t) (g (part (q - p) p t) q) w)) λ _ v _. well h
  token_here_lem (active a act) m place t p q g w h = here_kept m place t q a act g w h

  text_kept : (m from : ℕ) (t : List ℕ) (f p : ℕ) (w : World) → Clear t p → Kept BarAt Any (text_on_but m from t f p w) (text_on α m from t f p w)
  unfolding text_on_but text_on
  text_kept m from t zero p w h = well tt
  text_kept m from t (suc f) p w h = rw (same_piece α t p h).0 (when_both (Kept BarAt Any) (leb (length t) p) _ _ _ _ (well tt)
      (bind_kept _ _ (placed_kept m (from + p) (bind_kept _ _ (itself (charge w)) λ _ v _. token_here_lem (active_in (piece_at mixed t p).piece v) m (from + p) t p (piece_at mixed t p).to _ v (same_piece α t p h).1))
      λ q z e. text_kept m from t f q z e))

  out_kept : (m : ℕ) (s : List ℕ) (x : Stretch) (w : World) → BareText s x → Kept BarAt Any (text_out_but m s x w) (text_out α m s x w)
  unfolding text_out_but text_out
  out_kept m s x w h = bind_kept _ _ (itself (placed (stop m x.from) (put_out (blank m x.from) (began m x) 1 w))) λ _ v _. text_kept m x.from _ _ 0 v (at_start (part (x.to - x.from) x.from s) h)

-- ---- beside the run in step that `Follows` has, whose second world is the first with nothing more
abbrev Follows₀ : {E A : Type 0} → (E → Type 0) → Res E A → Res E A → Type 0
Follows₀ Z r s = Follows 0 0 none_extra [] Never even Same Z r s

to_step : {E A : Type 0} {Z : E → Type 0} {r s : Res E A} → Kept Z Any r s → Follows₀ Z r s
to_step {Z} (well {a} {w} _) = subst (λ (v : World). Follows₀ Z (good a w) (good a v)) (sym (same_world w)) goes
to_step ill = halts same
to_step (barred b) = lacks b

from_step : {E A : Type 0} {Z : E → Type 0} {r s : Res E A} → Follows₀ Z r s → Kept Z Any r s
from_step {Z} (goes {x} {w}) = subst (λ (v : World). Kept Z Any (good x w) (good x v)) (same_world w) (well tt)
from_step (halts same) = ill
from_step (lacks b) = barred b

in_step : {E A : Type 0} {Z : E → Type 0} {r : Res E A} (f : World → Res E A) (w : World) → Kept Z Any r (f w) → Follows₀ Z r (f (G₀ w))
in_step {Z} {r} f w h = subst (λ (v : World). Follows₀ Z r (f v)) (same_world w) (to_step h)

-- ---- members of a deck
same_source : (α : Letters) (s : List ℕ) → is_bare s ≡ true → read_member α s ≡ read_member mixed s
same_source mixed s h = refl
same_source capitals s h = sym (member_same s h).equal

bare_texts : (s : List ℕ) → is_bare s ≡ true → (x : Stretch) → TextOf (read_member mixed s) x → BareText s x
bare_texts s h x k = text_has (member_same s h) (subst (λ (y : Source). TextOf y x) (member_same s h).equal k)

same_find : (α : Letters) (x : Deck.Sought) (ls : List Deck.Line) → are_bare ls ≡ true → Deck.find α x 0 ls ≡ Deck.find mixed x 0 ls
same_find mixed x ls h = refl
same_find capitals x ls h = find_same x 0 ls h

module _ (α : Letters) (d : List ℕ) (names : are_bare (Deck.lines d) ≡ true) (sources : BareSources d) where
  abbrev K : {A : Type 0} → Res Stop A → Res Stop A → Type 0
  K r s = Kept BarAt Any r s

  abbrev Inners : Inner → Inner → Type 0
  Inners i j = (k : ℕ) → k < Deck.count d → (ps : List Place) (w : World) → K (i k ps w) (j k ps w)

  abbrev Levels : Level → Level → Type 0
  Levels no_level no_level = Unit {0}
  Levels no_level (level j) = ⊥
  Levels (level i) no_level = ⊥
  Levels (level i) (level j) = Inners i j

  module _ (f g : World → Res Stop Deed) (h : (w : World) → K (f w) (g w)) where
    came_out_lem : (m : ℕ) (x : End) (w : World) → K (came_out m x w f) (came_out m x w g)
    came_out_lem m ran w = h w
    came_out_lem m (returned v) w = h w
    came_out_lem m (went t) w = well tt

    entered_kept : (x : Entering) (i j : Inner) (k : ℕ) → ((ps : List Place) (w : World) → K (i k ps w) (j k ps w)) → (m n : ℕ) (ps : List Place) (w : World) → K (include_entered x i k m n ps w f) (include_entered x j k m n ps w g)
    entered_kept (unreadable e p) i j k is m n ps w = ill
    entered_kept (entered v) i j k is m n ps w = bind_kept _ _ (is (record { member = m; row = n } ∷ ps) v) λ x y _. came_out_lem m x y

    include_at_lem : (x : Deck.Found) → ((k : ℕ) → x ≡ Deck.line k → k < Deck.count d) → (l r : Level) → Levels l r → (p m n : ℕ) (ps : List Place) (w : World) → K (include_at mixed x l d p m n ps w f) (include_at α x r d p m n ps w g)
    include_at_lem Deck.none i l r z p m n ps w = ill
    include_at_lem (Deck.line k) i no_level no_level z p m n ps w = ill
    include_at_lem (Deck.line k) i no_level (level y) z p m n ps w = absurd z
    include_at_lem (Deck.line k) i (level x) no_level z p m n ps w = absurd z
    include_at_lem (Deck.line k) i (level x) (level y) z p m n ps w =
        rw (same_source α (body_of d k) (sources k (i k refl))) (entered_kept (enter k (read_member mixed (body_of d k)) w) x y k (z k (i k refl)) m n ps w)

  found : (x : Deck.Sought) (k : ℕ) → Deck.find mixed x 0 (Deck.lines d) ≡ Deck.line k → k < Deck.count d
  found x k z = omega (arith, find_range x 0 (Deck.lines d) k z, length_lines d 0 (Deck.count d))

  include_all_lem : (l r : Level) → Levels l r → (p m n : ℕ) (ps : List Place) (xs : List Deck.Sought) (w : World) → K (include_all mixed l d p m n ps xs w) (include_all α r d p m n ps xs w)
  unfolding include_all
  include_all_lem l r h p m n ps [] w = well tt
  include_all_lem l r h p m n ps (x ∷ xs) w = rw (same_find α x (Deck.lines d) names) (include_at_lem _ _ (include_all_lem l r h p m n ps xs) (Deck.find mixed x 0 (Deck.lines d)) (found x) l r h p m n ps w)

  act_kept : (s : Statement) (l r : Level) → Levels l r → (p m n : ℕ) (ps : List Place) (w : World) → K (act_as mixed s l d p m n ps w) (act_as α s r d p m n ps w)
  act_kept null l r h p m n ps w = well tt
  act_kept (declare ns) l r h p m n ps w = itself _
  act_kept (procedure ns t) l r h p m n ps w = well tt
  act_kept (assign t x) l r h p m n ps w = well tt
  act_kept (conditional x) l r h p m n ps w = well tt
  act_kept group l r h p m n ps w = well tt
  act_kept (iterated t x bs) l r h p m n ps w = well tt
  act_kept (goto t) l r h p m n ps w = well tt
  act_kept (include ns) l r h p m n ps w = include_all_lem l r h p m n ps ns w
  act_kept (activate xs) l r h p m n ps w = itself _
  act_kept (deactivate ns) l r h p m n ps w = itself _
  act_kept (return x) l r h p m n ps w = well tt

  source_kept : (l r : Level) → Levels l r → (m : ℕ) (ps : List Place) (s : Source) → ((x : Stretch) → TextOf s x → BareText (body_of d m) x) → (w : World) → K (run_source_but l d m ps s w) (run_source α r d m ps s w)
  unfolding run_source_but machine_but member_machine run_source
  source_kept l r h m ps s bare w =
      let M : Machine Stop = machine_but l d m ps s in
      let N : Machine Stop = member_machine α r d m ps s in
      let values : (x : Tree) (v : World) → Follows₀ Never (M.value x v) (N.value x (G₀ v)) = λ x v. in_step (N.value x) v (itself (N.value x v)) in
      let outs : (x : Stretch) → TextOf s x → (v : World) → Follows₀ BarAt (M.out x v) (N.out x (G₀ v)) = λ x k v. in_step (N.out x) v (out_kept α m (body_of d m) x v (bare x k)) in
      let acts : (n : ℕ) (v : World) → Follows₀ BarAt (M.act n v) (N.act n (G₀ v)) = λ n v. in_step (N.act n) v (act_kept (row_of s.rows n).statement l r h (row_of s.rows n).place m n ps v) in
      let gotos : (n : ℕ) (t : List ℕ) (v : World) → Follows₀ BarAt (M.jump n t v) (N.jump n t (G₀ v)) = λ n t v. in_step (N.jump n t) v (itself (N.jump n t v)) in
      subst (λ (v : World). K (run_source_but l d m ps s w) (run_source α r d m ps s v)) (sym (same_world w)) (from_step (bind_follows 0 0 none_extra [] Never even _ _
      (lead_follows 0 0 none_extra [] Never even M N.fault N.value N.out N.act N.jump (λ x e. same) (λ x e z. absurd z) values (TextOf s) behind leading_in outs acts gotos s.lead first w)
      λ _ v. run_on_follows 0 0 none_extra [] Never even M N.fault N.value N.out N.act N.jump (λ x e. same) (λ x e z. absurd z) values (TextOf s) behind leading_in outs acts gotos (first_of s.first) [] v))

  run_kept : (n : ℕ) → Inners (run_but n d) (run_member α n d)
  unfolding run_but run_member
  run_kept zero m i ps w = rw (same_source α (body_of d m) (sources m i)) (source_kept no_level no_level tt m ps (read_member mixed (body_of d m)) (bare_texts (body_of d m) (sources m i)) w)
  run_kept (suc n) m i ps w = rw (same_source α (body_of d m) (sources m i)) (source_kept (level (run_but n d)) (level (run_member α n d)) (run_kept n) m ps (read_member mixed (body_of d m)) (bare_texts (body_of d m) (sources m i)) w)

  -- ---- the main program
  result_kept : {r s : Res Stop End} → K r s → ((result r).number ≡ 1 → ⊥) → result s ≡ result r
  result_kept (well _) n = refl
  result_kept ill n = refl
  result_kept (barred b) n = absurd (n (ap number_of b))

  main_kept : 0 < Deck.count d → (x : Entering) → ((main_but x d).number ≡ 1 → ⊥) → run_main α x d ≡ main_but x d
  main_kept i (unreadable e p) n = refl
  main_kept i (entered w) n = result_kept (run_kept include_levels 0 i [] w) n

  ran_kept : 0 < Deck.count d → (w : World) → ((main_but (enter 0 (read_member mixed (body_of d 0)) w) d).number ≡ 1 → ⊥) → run_main α (enter 0 (read_member α (body_of d 0)) w) d ≡ main_but (enter 0 (read_member mixed (body_of d 0)) w) d
  ran_kept i w n = rw (same_source α (body_of d 0) (sources 0 i)) (main_kept i (enter 0 (read_member mixed (body_of d 0)) w) n)

-- the runs with both letters
runs_same : (d : List ℕ) → is_sound mixed d ≡ true → are_bare (Deck.lines d) ≡ true → BareSources d → (w : World) → ((main_but (enter 0 (read_member mixed (body_of d 0)) w) d).number ≡ 1 → ⊥) → run_main mixed (enter 0 (read_member mixed (body_of d 0)) w) d ≡ run_main capitals (enter 0 (read_member capitals (body_of d 0)) w) d
runs_same d s names sources w n =
    let i : 0 < Deck.count d = omega (arith, (sound_parts d s).some) in
    ran_kept mixed d names sources i w n ∙ sym (ran_kept capitals d names sources i w n)

-- KEEPS ITS ANSWER, TEXT AND LIST
pub keeps_case : KeepsCase
unfolding expansion_of expansion
keeps_case plain roomy d t l s names sources values = rw (sound_same d names) (
    when_by ◌≡◌ (is_sound mixed d) _ _ _ _ (λ e. when_both ◌≡◌ roomy _ _ _ _ (runs_same d e names sources (world_for plain t l s) values) refl) λ _. refl)
keeps_case cards roomy d t l s names sources values = rw (sound_same d names) (
    when_by ◌≡◌ (is_sound mixed d) _ _ _ _ (λ e. go (uneven 0 (Deck.lines d)) (ap (told (joined d)) (runs_same (joined d) (sound_joined d e) (joined_bare d e names) sources (world_for cards t l s) values))) λ _. refl)
  where
    go : (x : Deck.Found) → run_cards mixed (joined d) t l s ≡ run_cards capitals (joined d) t l s → cards_in mixed x roomy d t l s ≡ cards_in capitals x roomy d t l s
    go (Deck.line k) h = refl
    go Deck.none h = when_both ◌≡◌ roomy _ _ _ _ h refl
