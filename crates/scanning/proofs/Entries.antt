-- An entry, with its arguments or without.
-- Assumes nothing.
use Rattle.std.proofs.Common.{Some, None}
use Rattle.std.proofs.lemmas.Option.{same_Some}
use Rattle.outcomes.specs.Types.{Listing, Scanned, Replaced}
use mathlib.Core.Path.{◌≡◌, refl, sym, ap, subst, ◌∙◌}
use mathlib.Core.Bool.{true, false}
use mathlib.Core.List.{List, [], ◌∷◌}
use Prim.Native.Nat.{ℕ, ◌+◌, ◌<◌, ◌≤◌}
use native.Mathlib.Omega.{arith}
use borrow.Author.Tests.{eq-eqb, ne_eqb}
use Rattle.std.specs.Prelude.{Ok, Err}
use lib.Dec.{eqb}
use lib.ListN.{length}
use Rattle.definition.specs.Bytes.{mixed}
use Rattle.definition.specs.Values as Val
use Rattle.definition.specs.World.{World, Res, bad, bind}
use Rattle.definition.specs.Evaluate as Ev
use Rattle.definition.specs.Scan as D
use Rattle.definition.specs.Scan.{Argument, list_up_to, no_list, list_at}
use Rattle.definition.specs.declared.Why.{Why}
use Rattle.definition.specs.declared.Why.TheVariants.{WrongArguments}
use Rattle.meter.specs.declared.Meter.{Meter}
use Rattle.names.specs.declared.Activity.{Activity}
use Rattle.names.specs.Table.{activity_of}
use Rattle.callees.specs.declared.Callee.{Callee}
use Rattle.callees.specs.declared.Held.{Held}
use Rattle.callees.specs.Shown.{world_in}
use Rattle.callees.specs.Answer.{Waiting, held_from}
use Rattle.outcomes.specs.declared.Src.{Src}
use Rattle.outcomes.specs.declared.Dest.{Dest}
use Rattle.outcomes.specs.Texts.{room_of, text_of}
use Rattle.outcomes.specs.Places.{into_of}
use Rattle.outcomes.specs.Arguments.{cut_from, past_blanks, listing_for, ListIn}
use Rattle.outcomes.proofs.Cutting.{list_cut}
use Rattle.operands.specs.declared.Scene.{Scene}
use Rattle.operands.specs.Answer.{run_in}
use Rattle.evaluating.specs.Cycle.{CalleeShown}
use Rattle.scanning.specs.Cycle.{Sourced, Stage, Came, Gone, scanner_in, is_on, EntryIs, CallWith, Taken, Taking, TakenIs}
use Rattle.scanning.proofs.Common.{up_to_of, never, stage_on, aims_same, gone_bad, left_same, up_gone}
use Rattle.scanning.proofs.Values.{came_over}

-- ---- a listing is of a list
pub record ListedAs (a : D.Arguments) (f n first q : ℕ) : Type 0 where
  pub arguments : List Argument
  pub is : a ≡ list_up_to arguments q
  pub size : length arguments ≡ n
  pub begins : first ≡ f

listed_as : (a : D.Arguments) (f n first q : ℕ) → Some (n, first, q) ≡ listing_for f a → ListedAs a f n first q
listed_as (list_up_to xs r) f n first q e =
    let t : ◌≡◌ {A = ℕ × ℕ × ℕ} (n, first, q) (length xs, f, r) = same_Some _ _ e in
    record { arguments = xs; is = ap (λ (z : ℕ × ℕ × ℕ). list_up_to xs z.2) (sym t); size = ap (λ (z : ℕ × ℕ × ℕ). z.0) (sym t); begins = ap (λ (z : ℕ × ℕ × ℕ). z.1) t }
listed_as no_list f n first q e = never _ (cc)

listed_none : (a : D.Arguments) (f : ℕ) → None ≡ listing_for f a → a ≡ no_list
listed_none (list_up_to xs r) f e = never _ (cc)
listed_none no_list f e = refl

unlisted : (x : Listing) → ((k f q : ℕ) → x ≡ Some (k, f, q) → ⊥) → x ≡ None
unlisted (Some (k, f, q)) h = absurd (h k f q refl)
unlisted None h = refl

pub nil_is : (ps : List Ev.Parameter) → length ps ≡ 0 → ps ≡ []
nil_is [] e = refl
nil_is (p ∷ ps) e = absurd (omega (arith, e))

held_none : (w : List ℕ) (k : Held) (u : ℕ) (ps : List Ev.Parameter) → ps ≡ [] → held_from w k 0 u ps ≡ []
unfolding held_from
held_none w k u ps e = rw e

waiting_none : (k : Held) (u : ℕ) (ps : List Ev.Parameter) → ps ≡ [] → Waiting k 0 u ps
waiting_none k u ps e = rw e tt

module _ (deck s rows names c l h w t : List ℕ) (x : Src) (p : ℕ) (z : Callee) (y : Activity) (o : Dest) (u n : ℕ) (sc : Scene) (m : Meter) where
  abbrev entered : World → Ev.Callee → Res Why D.Replaced
  entered B b = D.replace_entry mixed (run_in sc) (scanner_in sc n) (text_of s w x) p (activity_of y) (into_of o) u b (world_in B c l h m.used)

  plain_is : (B : World) (b : Ev.Callee) (k : Held) → b.parameters ≡ [] → entered B b ≡ D.up_to p (D.call_with (run_in sc) (scanner_in sc n) (activity_of y) (into_of o) u b (held_from w k 0 u b.parameters) (world_in B c l h m.used))
  unfolding D.replace_entry
  plain_is B b k e = rw (eq-eqb (length b.parameters) 0 (ap length e), held_none w k u b.parameters e)

  pub entry_plain : (k : Held) (c' l' h' w' t' : List ℕ) (v : Scanned) (r : Replaced) → z.count < 1 → CallWith deck s rows names c l h w t z k y o u n sc m c' l' h' w' t' v → r ≡ up_to_of v p → EntryIs deck s rows names c l h w t x p z y o u n sc m c' l' h' w' t' r
  entry_plain k c' l' h' w' t' v r few cw e = rw e (record {
    is = λ B g so on b cs.
        let f : b.parameters ≡ [] = nil_is b.parameters (omega (arith, cs.count)) in
        rw (plain_is B b k f) (up_gone B o u w t c' l' h' w' t' v p _ (cw.is B g on b cs (waiting_none k u b.parameters f)));
  })

  module _ (many : 1 ≤ z.count) (ls : Listing) (li : ListIn (room_of s w x) x.from x.to p ls) where
    list_is : Sourced s w x u → ls ≡ listing_for (past_blanks (text_of s w x) p + 1) (list_at mixed (text_of s w x) p)
    unfolding text_of
    list_is so = li.is so.within

    with_is : (B : World) (b : Ev.Callee) → CalleeShown deck names sc.names z b B → (a : D.Arguments) → list_at mixed (text_of s w x) p ≡ a → entered B b ≡ D.with_list (run_in sc) (scanner_in sc n) (text_of s w x) (activity_of y) (into_of o) u b a (world_in B c l h m.used)
    unfolding D.replace_entry
    with_is B b cs a e = let f : length b.parameters ≡ 0 → ⊥ = λ i. omega (arith, cs.count) in rw (ne_eqb (length b.parameters) 0 f, e)

    wrong : (B : World) (b : Ev.Callee) → Stage deck rows names c l h w u sc m t o B → entered B b ≡ bad WrongArguments m.used → Gone B o u w t c l h w t (Err (WrongArguments, m)) (entered B b)
    wrong B b g q = gone_bad B o u w t c l h w t WrongArguments m _ (sym q) (left_same deck rows names c l h w u sc m t o B g)

    pub entry_none : ((k f q : ℕ) → ls ≡ Some (k, f, q) → ⊥) → EntryIs deck s rows names c l h w t x p z y o u n sc m c l h w t (Err (WrongArguments, m))
    entry_none e = record { is = λ B g so on b cs. wrong B b g (with_is B b cs no_list (listed_none (list_at mixed (text_of s w x) p) (past_blanks (text_of s w x) p + 1) (sym (unlisted ls e) ∙ list_is so))) }

    module _ (cnt first q : ℕ) (e : ls ≡ Some (cnt, first, q)) where
      listed : Sourced s w x u → ListedAs (list_at mixed (text_of s w x) p) (past_blanks (text_of s w x) p + 1) cnt first q
      listed so = listed_as (list_at mixed (text_of s w x) p) (past_blanks (text_of s w x) p + 1) cnt first q (sym e ∙ list_is so)

      pub entry_many : (cnt ≡ z.count → ⊥) → EntryIs deck s rows names c l h w t x p z y o u n sc m c l h w t (Err (WrongArguments, m))
      entry_many f = record {
        is = λ B g so on b cs.
            let d = listed so in
            let i : eqb (length d.arguments) (length b.parameters) ≡ false = ne_eqb (length d.arguments) (length b.parameters) (λ j. f (sym d.size ∙ j ∙ sym cs.count)) in
            wrong B b g (with_is B b cs (list_up_to d.arguments q) d.is ∙ rw i);
      }

      module _ (same : cnt ≡ z.count) (c₁ l₁ h₁ w₁ t₁ : List ℕ) (oc : Taken) (tk : TakenIs deck s rows names c l h w t x first z u n sc m c₁ l₁ h₁ w₁ t₁ oc) where
        module _ (B : World) (g : Stage deck rows names c l h w u sc m t o B) (so : Sourced s w x u) (b : Ev.Callee) (cs : CalleeShown deck names sc.names z b B) where
          abbrev d : ListedAs (list_at mixed (text_of s w x) p) (past_blanks (text_of s w x) p + 1) cnt first q
          d = listed so

          sized : length d.arguments ≡ length b.parameters
          sized = d.size ∙ same ∙ cs.count

          abbrev took : Res Why (List Val.Value)
          took = D.scan_arguments (scanner_in sc n) (text_of s w x) b.parameters d.arguments u (world_in B c l h m.used)

          taken : Taking B u w t c₁ l₁ h₁ w₁ t₁ b.parameters oc took
          taken =
              let f : cut_from (text_of s w x) first ≡ list_up_to d.arguments q = ap (cut_from (text_of s w x)) d.begins ∙ list_cut (text_of s w x) p d.arguments q d.is in
              tk.is B o g so b cs d.arguments q sized f

          all_is : entered B b ≡ bind took (λ vs v. D.up_to q (D.call_with (run_in sc) (scanner_in sc n) (activity_of y) (into_of o) u b vs v))
          all_is = with_is B b cs (list_up_to d.arguments q) d.is ∙ rw (eq-eqb (length d.arguments) (length b.parameters) sized)

          refused_by : (f : Why) (m' : Meter) → oc ≡ Err (f, m') → Gone B o u w t c₁ l₁ h₁ w₁ t₁ (Err (f, m')) (entered B b)
          refused_by f m' i =
              let T : Taking B u w t c₁ l₁ h₁ w₁ t₁ b.parameters (Err (f, m')) took = rw i at taken in
              gone_bad B o u w t c₁ l₁ h₁ w₁ t₁ f m' _ (sym (all_is ∙ rw (← T.is))) T.left

          called_by : (k : Held) (m' : Meter) (c' l' h' w' t' : List ℕ) (v : Scanned) → oc ≡ Ok (k, m') → is_on y ≡ true → CallWith deck s rows names c₁ l₁ h₁ w₁ t₁ z k y o u n sc m' c' l' h' w' t' v → Gone B o u w t c' l' h' w' t' (up_to_of v q) (entered B b)
          called_by k m' c' l' h' w' t' v i on cw =
              let T : Taking B u w t c₁ l₁ h₁ w₁ t₁ b.parameters (Ok (k, m')) took = rw i at taken in
              let st : Stage deck rows names c₁ l₁ h₁ w₁ u sc m' t₁ o B = stage_on deck rows names c l h w u sc m t o B c₁ l₁ h₁ w₁ u m' t₁ o g T.left.slots T.left.work g.shows.taken T.left.limit (aims_same t t₁ o g.aims T.left.long) in
              let C₁ : Came B o u w₁ t₁ c' l' h' w' t' v (D.call_with (run_in sc) (scanner_in sc n) (activity_of y) (into_of o) u b (held_from w₁ k 0 u b.parameters) (world_in B c₁ l₁ h₁ m'.used)) = cw.is B st on b cs T.waits in
              let C : Came B o u w t c' l' h' w' t' v (D.call_with (run_in sc) (scanner_in sc n) (activity_of y) (into_of o) u b (held_from w₁ k 0 u b.parameters) (world_in B c₁ l₁ h₁ m'.used)) =
              came_over B o u w w₁ t c' l' h' w' t' v _ T.left.below T.left.work (subst (λ (i : List ℕ). Came B o u w₁ i c' l' h' w' t' v (D.call_with (run_in sc) (scanner_in sc n) (activity_of y) (into_of o) u b (held_from w₁ k 0 u b.parameters) (world_in B c₁ l₁ h₁ m'.used))) T.text C₁) in
              let Q : entered B b ≡ D.up_to q (D.call_with (run_in sc) (scanner_in sc n) (activity_of y) (into_of o) u b (held_from w₁ k 0 u b.parameters) (world_in B c₁ l₁ h₁ m'.used)) = all_is ∙ rw (← T.is) in
              rw Q (up_gone B o u w t c' l' h' w' t' v q _ C)

        pub entry_refused : (f : Why) (m' : Meter) → oc ≡ Err (f, m') → EntryIs deck s rows names c l h w t x p z y o u n sc m c₁ l₁ h₁ w₁ t₁ (Err (f, m'))
        entry_refused f m' i = record { is = λ B g so on b cs. refused_by B g so b cs f m' i }

        pub entry_called : (k : Held) (m' : Meter) (c' l' h' w' t' : List ℕ) (v : Scanned) (r : Replaced) → oc ≡ Ok (k, m') → CallWith deck s rows names c₁ l₁ h₁ w₁ t₁ z k y o u n sc m' c' l' h' w' t' v → r ≡ up_to_of v q → EntryIs deck s rows names c l h w t x p z y o u n sc m c' l' h' w' t' r
        entry_called k m' c' l' h' w' t' v r i cw j = rw j (record { is = λ B g so on b cs. called_by B g so b cs k m' c' l' h' w' t' v i on cw })
