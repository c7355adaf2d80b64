-- INCLUDE: the member that a name means, and the members of a list one after the other.
-- Assumes nothing.
use Rattle.std.proofs.Common.{Option, Some, None, Result, Ok, Err}
use mathlib.Core.Path.{◌≡◌, refl, sym, ap, subst, ◌∙◌}
use mathlib.Core.Bool.{Bool, true, false}
use mathlib.Core.List.{List, [], ◌∷◌}
use Prim.Native.Nat.{ℕ, zero, suc, ◌+◌, ◌-◌, ◌<◌, ◌≤◌}
use native.Mathlib.Omega.{arith}
use lib.ListN.{length}
use Rattle.definition.specs.Bytes.{mixed}
use Rattle.definition.specs.Limits.{include_levels}
use Rattle.definition.specs.Tokens.{is_sign, token_at}
use Rattle.definition.specs.Deck as Deck
use Rattle.definition.specs.Deck.{is_sound, count, lines, find}
use Rattle.definition.specs.Reading.{read_member}
use Rattle.definition.specs.World.{World, Res, good, bad, bind, rows_of}
use Rattle.definition.specs.Program as P
use Rattle.definition.specs.Calls.{Place}
use Rattle.definition.specs.Flow as F
use Rattle.definition.specs.Run as Run
use Rattle.definition.specs.Run.{body_of}
use Rattle.definition.specs.declared.Why.{Why}
use Rattle.definition.specs.declared.Why.TheVariants.{UnknownMember, TooDeep}
use Rattle.deck.specs.declared.Sought.{Sought}
use Rattle.deck.specs.Answer.{body_in, found_for, sought_in}
use Rattle.tokens.specs.declared.Lexeme.{Lexeme}
use Rattle.tokens.specs.Answer.{Lexed, is_sign_in}
use Rattle.callees.specs.Shown.{world_in}
use Rattle.callees.proofs.Listing.{told}
use Rattle.names.specs.declared.Label.{Label}
use Rattle.rows.specs.Table.{row_in}
use Rattle.rows.specs.Parts.{start_in, StartsAt}
use Rattle.rows.specs.declared.Row.{Row}
use Rattle.rows.specs.declared.Starts.{Starts}
use Rattle.showing.specs.Worlds.{Laid}
use Rattle.showing.specs.Listed.{item_end, Spells, Named}
use Rattle.showing.specs.Later.{Grew}
use Rattle.showing.proofs.Bodies.{find_low}
use Rattle.showing.proofs.Including.{named_first, named_more, named_last, named_few}
use Rattle.showing.proofs.Later.{later_rows, later_size}
use Rattle.showing.proofs.Returning.{back_laid}
use Rattle.showing.proofs.Worlds.{rows_shown, size_placed}
use Rattle.leaving.specs.declared.Below.{Below}
use Rattle.leaving.specs.Places.{below_of, place_at, WithBelow, Stand}
use Rattle.texts.specs.declared.Progress.{Progress}
use Rattle.texts.specs.declared.Here.{Here}
use Rattle.texts.specs.declared.Stop.{Stop}
use Rattle.texts.specs.Shown.{stop_for}
use Rattle.stepping.specs.declared.Ended.{Ended}
use Rattle.stepping.specs.declared.Ended.TheVariants as En
use Rattle.stepping.specs.Stage.{Stage, part_here}
use Rattle.stepping.specs.Steps.{EndNow}
use Rattle.running.specs.declared.Item.{Item}
use Rattle.running.specs.declared.Left.{Left}
use Rattle.running.specs.Included.{enter_run, found_run, end_on, include_on}
use Rattle.running.specs.Members.{here_at, Since, EndsAs, Running, Within, ItemIs, FoundIs, IncludeOneIs, IncludeAllIs, EnterIs}
use Rattle.running.specs.Readers.{StartedAt, stopped_at}
use Rattle.running.specs.Ways.{left_at}
use Rattle.running.proofs.Afterwards.{since_none, since_on, stand_later}
use Rattle.running.proofs.Entering.{here_is}

-- ---- ONE NAME: 14, 15, then the member
found_none : (x : Deck.Found) → found_for x ≡ None → x ≡ Deck.none
found_none Deck.none e = refl
found_none (Deck.line k) e = let z : ◌≡◌ {A = ℕ} 0 1 = cc in absurd (omega arith)

found_line : (x : Deck.Found) (k : ℕ) → found_for x ≡ Some k → x ≡ Deck.line k
found_line Deck.none k e = let z : ◌≡◌ {A = ℕ} 0 1 = cc in absurd (omega arith)
found_line (Deck.line j) k e = let z : j ≡ k = cc in ap Deck.line z

run_deep : (left : ℕ) (d : List ℕ) (p m k : ℕ) (on : List Place) (v : World) → left < 1 → found_run (Deck.line k) left d p m on v ≡ bad (Run.stop m p TooDeep) v.used
run_deep zero d p m k on v l = refl
run_deep (suc n) d p m k on v l = absurd (omega (arith, l))

run_line : (left : ℕ) (d : List ℕ) (p m k : ℕ) (on : List Place) (v : World) → 1 ≤ left → found_run (Deck.line k) left d p m on v ≡ enter_run (left - 1) d k on v
run_line zero d p m k on v l = absurd (omega (arith, l))
run_line (suc n) d p m k on v l = let e : n ≡ suc n - 1 = omega arith in ap (λ (i : ℕ). enter_run i d k on v) e

-- the rooms do not tell which member ended
ends_in : (on : List Place) (deck rows : List ℕ) (B : World) (rows' names c l h w t ls : List ℕ) (k m : ℕ) (R : Res Run.Stop F.End) (r : Left) → EndsAs on deck rows B rows' names c l h w t ls k R r → EndsAs on deck rows B rows' names c l h w t ls m R r
ends_in on deck rows B rows' names c l h w t ls k m R r x = record { world = x.world; since = x.since; now = by r.ended x.now }
  where
    by : (e : Result Ended (Stop × Progress)) → EndNow on deck rows' names c l h w t ls (here_at k r.starts) R x.world e → EndNow on deck rows' names c l h w t ls (here_at m r.starts) R x.world e
    by (Ok (En.Ran g)) y = record { stage = y.stage; is = y.is }
    by (Ok (En.Went z g)) y = record { stage = y.stage; is = y.is; reaches = y.reaches }
    by (Err (z, g)) y = y

module _ (deck rows names c l h w t ls : List ℕ) (x : Sought) (p : ℕ) (below : Below) (here : Here) (left : ℕ) (g : Progress) (f : Option ℕ) (named : FoundIs deck here.member x f) where
  abbrev found : Deck.Found
  found = find mixed (sought_in (body_in deck here.member) x) 0 (lines deck)

  -- a refusal here
  one_refused : (e : Why) → (is_sound mixed deck ≡ true → here.member < count deck → Within (length (body_in deck here.member)) x → (v : World) → found_run found left deck p here.member (below_of below) v ≡ bad (Run.stop here.member p e) v.used)
      → IncludeOneIs deck rows names c l h w t ls x p below here left g rows names c l h w t ls (left_at here (stopped_at g e here.member p))
  one_refused e q = record { is = λ B S sound line within stand deep some. record { world = B; since = since_none rows B; now = q sound line within (world_in B c l h g.meter.used) } }

  pub include_unknown : (y : Result Ended (Stop × Progress)) (r : Left) → f ≡ None → y ≡ stopped_at g UnknownMember here.member p → r ≡ left_at here y → IncludeOneIs deck rows names c l h w t ls x p below here left g rows names c l h w t ls r
  include_unknown y r e a b =
      subst (λ (z : Left). IncludeOneIs deck rows names c l h w t ls x p below here left g rows names c l h w t ls z) (sym (b ∙ ap (λ (z : Result Ended (Stop × Progress)). left_at here z) a))
      (one_refused UnknownMember λ sound line within v.
      ap (λ (z : Deck.Found). found_run z left deck p here.member (below_of below) v) (found_none found (sym (named.is sound line within) ∙ e)))

  pub include_deep : (k : ℕ) (y : Result Ended (Stop × Progress)) (r : Left) → f ≡ Some k → left < 1 → y ≡ stopped_at g TooDeep here.member p → r ≡ left_at here y → IncludeOneIs deck rows names c l h w t ls x p below here left g rows names c l h w t ls r
  include_deep k y r e few a b =
      subst (λ (z : Left). IncludeOneIs deck rows names c l h w t ls x p below here left g rows names c l h w t ls z) (sym (b ∙ ap (λ (z : Result Ended (Stop × Progress)). left_at here z) a))
      (one_refused TooDeep λ sound line within v.
      ap (λ (z : Deck.Found). found_run z left deck p here.member (below_of below) v) (found_line found k (sym (named.is sound line within) ∙ e)) ∙ run_deep left deck p here.member k (below_of below) v few)

  pub include_enters : (k : ℕ) (here' : Here) (rows' names' c' l' h' w' t' ls' : List ℕ) (r : Left) → f ≡ Some k → 1 ≤ left → here' ≡ here_at k here.starts
      → EnterIs deck rows names c l h w t ls below here' (left - 1) g rows' names' c' l' h' w' t' ls' r → IncludeOneIs deck rows names c l h w t ls x p below here left g rows' names' c' l' h' w' t' ls' r
  include_enters k here' rows' names' c' l' h' w' t' ls' r e some a run =
      let enter : EnterIs deck rows names c l h w t ls below (here_at k here.starts) (left - 1) g rows' names' c' l' h' w' t' ls' r =
      subst (λ (z : Here). EnterIs deck rows names c l h w t ls below z (left - 1) g rows' names' c' l' h' w' t' ls' r) a run in
      record {
        is = λ B S sound line within stand deep one.
            let is : found ≡ Deck.line k = found_line found k (sym (named.is sound line within) ∙ e) in
            let v : World = world_in B c l h g.meter.used in
            let same : found_run found left deck p here.member (below_of below) v ≡ enter_run (left - 1) deck k (below_of below) v =
            ap (λ (z : Deck.Found). found_run z left deck p here.member (below_of below) v) is ∙ run_line left deck p here.member k (below_of below) v some in
            subst (λ (z : Res Run.Stop F.End). EndsAs (below_of below) deck rows B rows' names' c' l' h' w' t' ls' here.member z r) (sym same)
            (ends_in (below_of below) deck rows B rows' names' c' l' h' w' t' ls' k here.member (enter_run (left - 1) deck k (below_of below) v) r
            (enter.is B S sound (find_low deck (sought_in (body_in deck here.member) x) k is) stand (omega (arith, deep, some))));
      }

-- ---- BACK in the member m, which is looked at where it was
stage_back : (deck rows names c l h w t ls : List ℕ) (starts : Starts) (g : Progress) (B : World) → Stage deck rows names c l h w t ls starts g B → (rows' names' c' l' h' w' t' ls' : List ℕ) (starts' starts'' : Starts) (g' : Progress) (B' : World)
    → Since rows B rows' B' → (m n : ℕ) → m < 32 → n < length (rows_of m B) → StartsAt starts' m (start_in starts m) starts'' → Stage deck rows' names' c' l' h' w' t' ls' starts' g' B' → Stage deck rows' names' c' l' h' w' t' ls' starts'' g' B'
stage_back deck rows names c l h w t ls starts g B S rows' names' c' l' h' w' t' ls' starts' starts'' g' B' since m n low there st Z =
    let grew : Grew rows g.rows rows' = subst (λ (k : ℕ). Grew rows k rows') S.sentences since.grew in
    let more : g.rows ≤ g'.rows = omega (arith, since.more, S.sentences, Z.sentences) in
    let laid : Laid deck rows' starts'' g'.rows B' = back_laid deck rows rows' starts starts' starts'' g.rows g'.rows m B B' S.laid Z.laid grew more (later_rows B B' m n since.later there) st low in
    record {
      onstage = record {
        shows = record {
          named = Z.onstage.shows.named;
          rowed = rows_shown deck rows' starts'' B' laid.stored Z.placed (omega (arith, size_placed (body_in deck) B' Z.placed, Z.onstage.shows.slots.few));
          slots = Z.onstage.shows.slots;
          work = Z.onstage.shows.work;
          taken = Z.onstage.shows.taken;
          limit = Z.onstage.shows.limit;
          left = Z.onstage.shows.left;
        };
        awake = Z.onstage.awake;
        written = Z.onstage.written;
      };
      placed = Z.placed;
      laid = laid;
      sentences = Z.sentences;
      few = Z.few;
      roomy = Z.roomy;
    }

end_back : (on : List Place) (deck rows : List ℕ) (k m : ℕ) (starts starts' : Starts) (R : Res Run.Stop F.End) (names c l h w t ls : List ℕ) (B : World)
    → ((g : Progress) → Stage deck rows names c l h w t ls starts g B → Stage deck rows names c l h w t ls starts' g B) → (e : Result Ended (Stop × Progress)) → EndNow on deck rows names c l h w t ls (here_at k starts) R B e
    → EndNow on deck rows names c l h w t ls (here_at m starts') R B e
end_back on deck rows k m starts starts' R names c l h w t ls B f (Ok (En.Ran g)) y = record { stage = f g y.stage; is = y.is }
end_back on deck rows k m starts starts' R names c l h w t ls B f (Ok (En.Went z g)) y = record { stage = f g y.stage; is = y.is; reaches = y.reaches }
end_back on deck rows k m starts starts' R names c l h w t ls B f (Err (z, g)) y = y

-- ---- THE LIST of an INCLUDE, which stands at row n of the member, at a place; its names begin behind `from`. `inner` has the INCLUDE itself
module _ (deck rows names c l h w t ls : List ℕ) (n left place from : ℕ) (inner : Below) (before : Here) (g₀ : Progress) where
  abbrev names_left : List Deck.Sought → World → Res Run.Stop F.End
  names_left ns v = include_on left deck place before.member (below_of inner) ns v

  -- what is asked of the world at first, and of the names
  pub record Asked (B : World) (ns : List Deck.Sought) : Type 0 where
    pub stage : Stage deck rows names c l h w t ls before.starts g₀ B
    pub sound : is_sound mixed deck ≡ true
    pub line : before.member < count deck
    pub low : before.member < 32
    pub there : n < length (rows_of before.member B)
    pub stand : Stand (below_of inner) B
    pub deep : inner.count + left ≤ suc include_levels
    pub some : 1 ≤ inner.count
    pub named : Named (body_in deck before.member) from ns

  -- the names that are left, in a world that the rooms show now
  pub record Now (B : World) (ns : List Deck.Sought) (rows₁ names₁ c₁ l₁ h₁ w₁ t₁ ls₁ : List ℕ) (starts : Starts) (at : ℕ) (g : Progress) (turns : ℕ) : Type 0 where
    pub world : World
    pub since : Since rows B rows₁ world
    pub stage : Stage deck rows₁ names₁ c₁ l₁ h₁ w₁ t₁ ls₁ starts g world
    pub start : start_in starts before.member ≡ start_in before.starts before.member
    pub rest : List Deck.Sought
    pub named : Named (body_in deck before.member) at rest
    pub few : length rest ≤ turns
    pub same : names_left rest (world_in world c₁ l₁ h₁ g.meter.used) ≡ names_left ns (world_in B c l h g₀.meter.used)

  -- THE INVARIANT of the loop
  pub record Going (rows₁ names₁ c₁ l₁ h₁ w₁ t₁ ls₁ : List ℕ) (here : Here) (at : ℕ) (g : Progress) (turns : ℕ) : Type 0 where
    pub member : here.member ≡ before.member
    pub is : (B : World) (ns : List Deck.Sought) → Asked B ns → Now B ns rows₁ names₁ c₁ l₁ h₁ w₁ t₁ ls₁ here.starts at g turns

  -- an answer of all of them, and where the member is looked at
  abbrev Answered : List ℕ → List ℕ → List ℕ → List ℕ → List ℕ → List ℕ → List ℕ → List ℕ → Left → World → List Deck.Sought → Type 0
  Answered rows₂ names₂ c₂ l₂ h₂ w₂ t₂ ls₂ y B ns =
      EndsAs (below_of inner) deck rows B rows₂ names₂ c₂ l₂ h₂ w₂ t₂ ls₂ before.member (names_left ns (world_in B c l h g₀.meter.used)) y × (start_in y.starts before.member ≡ start_in before.starts before.member)

  module _ (s : List ℕ) (body : s ≡ body_in deck before.member) where
    pub going_start : (turns : ℕ) → turns ≡ length s → Going rows names c l h w t ls before from g₀ turns
    going_start turns e = record {
      member = refl;
      is = λ B ns a. record {
        world = B;
        since = since_none rows B;
        stage = a.stage;
        start = refl;
        rest = ns;
        named = a.named;
        few = omega (arith, named_few (body_in deck before.member) from ns a.named, e, ap (λ (x : List ℕ). length x) body);
        same = refl;
      };
    }

    -- a turn: the member of the name at a place is run
    module _ (rows₁ names₁ c₁ l₁ h₁ w₁ t₁ ls₁ : List ℕ) (here : Here) (at : ℕ) (g : Progress) (turns : ℕ) (going : Going rows₁ names₁ c₁ l₁ h₁ w₁ t₁ ls₁ here at g turns) (it : Item) (item : ItemIs s at it)
        (rows₂ names₂ c₂ l₂ h₂ w₂ t₂ ls₂ : List ℕ) (x : Left) (ran : IncludeOneIs deck rows₁ names₁ c₁ l₁ h₁ w₁ t₁ ls₁ it.sought place inner here left g rows₂ names₂ c₂ l₂ h₂ w₂ t₂ ls₂ x) (here₂ : Here)
        (back : StartedAt here x.starts (start_in here.starts here.member) here₂) where
      record Past (B : World) (ns : List Deck.Sought) : Type 0 where
        world : World
        since : Since rows B rows₂ world
        start : start_in here₂.starts before.member ≡ start_in before.starts before.member
        first : Deck.Sought
        rest : List Deck.Sought
        named : Named (body_in deck before.member) at (first ∷ rest)
        few : suc (length rest) ≤ turns
        answer : Res Run.Stop F.End
        now : EndNow (below_of inner) deck rows₂ names₂ c₂ l₂ h₂ w₂ t₂ ls₂ (here_at before.member here₂.starts) answer world x.ended
        same : bind answer (λ e v. end_on e v (λ u. names_left rest u)) ≡ names_left ns (world_in B c l h g₀.meter.used)

      ran_here : IncludeOneIs deck rows₁ names₁ c₁ l₁ h₁ w₁ t₁ ls₁ it.sought place inner (here_at before.member here.starts) left g rows₂ names₂ c₂ l₂ h₂ w₂ t₂ ls₂ x
      ran_here = subst (λ (y : Here). IncludeOneIs deck rows₁ names₁ c₁ l₁ h₁ w₁ t₁ ls₁ it.sought place inner y left g rows₂ names₂ c₂ l₂ h₂ w₂ t₂ ls₂ x) (here_is here before.member going.member) ran

      starts_here : StartsAt x.starts before.member (start_in here.starts before.member) here₂.starts
      starts_here = subst (λ (k : ℕ). StartsAt x.starts k (start_in here.starts k) here₂.starts) going.member back.starts

      item_here : ItemIs (body_in deck before.member) at it
      item_here = subst (λ (z : List ℕ). ItemIs z at it) body item

      passed : (B : World) (ns : List Deck.Sought) → Asked B ns → Past B ns
      unfolding include_on
      passed B ns a = by z.rest z.named z.few z.same
        where
          z : Now B ns rows₁ names₁ c₁ l₁ h₁ w₁ t₁ ls₁ here.starts at g turns
          z = going.is B ns a

          there : n < length (rows_of before.member z.world)
          there = later_size B z.world before.member n z.since.later a.there

          by : (qs : List Deck.Sought) → Named (body_in deck before.member) at qs → length qs ≤ turns → names_left qs (world_in z.world c₁ l₁ h₁ g.meter.used) ≡ names_left ns (world_in B c l h g₀.meter.used) → Past B ns
          by [] k few same = absurd k
          by (y ∷ ys) k few same =
              let sp : Spells (body_in deck before.member) at y = named_first (body_in deck before.member) at y ys k in
              let v : World = world_in z.world c₁ l₁ h₁ g.meter.used in
              let R : Res Run.Stop F.End = found_run (find mixed y 0 (lines deck)) left deck place before.member (below_of inner) v in
              let ends : EndsAs (below_of inner) deck rows₁ z.world rows₂ names₂ c₂ l₂ h₂ w₂ t₂ ls₂ before.member R x =
              subst (λ (q : Deck.Sought). EndsAs (below_of inner) deck rows₁ z.world rows₂ names₂ c₂ l₂ h₂ w₂ t₂ ls₂ before.member (found_run (find mixed q 0 (lines deck)) left deck place before.member (below_of inner) v) x) (item_here.is ∙ sp.is)
              (ran_here.is z.world z.stage a.sound a.line (item_here.within (length (body_in deck before.member)) sp.within) (stand_later (below_of inner) B z.world z.since.later a.stand) a.deep a.some) in
              record {
                world = ends.world;
                since = since_on rows rows₁ rows₂ B z.world ends.world z.since ends.since;
                start = starts_here.here a.low ∙ z.start;
                first = y;
                rest = ys;
                named = k;
                few = few;
                answer = R;
                now = end_back (below_of inner) deck rows₂ before.member before.member x.starts here₂.starts R names₂ c₂ l₂ h₂ w₂ t₂ ls₂ ends.world
                    (λ q S. stage_back deck rows₁ names₁ c₁ l₁ h₁ w₁ t₁ ls₁ here.starts g z.world z.stage rows₂ names₂ c₂ l₂ h₂ w₂ t₂ ls₂ x.starts here₂.starts q ends.world ends.since before.member n a.low there starts_here S)
                    x.ended ends.now;
                same = same;
              }

      -- a GOTO or a refusal ends the list
      went : (q : Label) (g₂ : Progress) → x.ended ≡ Ok (En.Went q g₂) → (B : World) (ns : List Deck.Sought) → Asked B ns → Answered rows₂ names₂ c₂ l₂ h₂ w₂ t₂ ls₂ (left_at here₂ (Ok (En.Went q g₂))) B ns
      went q g₂ e B ns a =
          let k : Past B ns = passed B ns a in
          let d : EndNow (below_of inner) deck rows₂ names₂ c₂ l₂ h₂ w₂ t₂ ls₂ (here_at before.member here₂.starts) k.answer k.world (Ok (En.Went q g₂)) =
          subst (λ (v : Result Ended (Stop × Progress)). EndNow (below_of inner) deck rows₂ names₂ c₂ l₂ h₂ w₂ t₂ ls₂ (here_at before.member here₂.starts) k.answer k.world v) e k.now in (
            record {
              world = k.world;
              since = k.since;
              now = record { stage = d.stage; is = sym k.same ∙ ap (λ (v : Res Run.Stop F.End). bind v (λ b u. end_on b u (λ i. names_left k.rest i))) d.is; reaches = d.reaches };
            },
            k.start,
          )

      stops : (q : Stop) (g₂ : Progress) → x.ended ≡ Err (q, g₂) → (B : World) (ns : List Deck.Sought) → Asked B ns → Answered rows₂ names₂ c₂ l₂ h₂ w₂ t₂ ls₂ (left_at here₂ (Err (q, g₂))) B ns
      stops q g₂ e B ns a =
          let k : Past B ns = passed B ns a in
          let d : k.answer ≡ bad (stop_for q) g₂.meter.used =
          subst (λ (v : Result Ended (Stop × Progress)). EndNow (below_of inner) deck rows₂ names₂ c₂ l₂ h₂ w₂ t₂ ls₂ (here_at before.member here₂.starts) k.answer k.world v) e k.now in
          (record { world = k.world; since = k.since; now = sym k.same ∙ ap (λ (v : Res Run.Stop F.End). bind v (λ b u. end_on b u (λ i. names_left k.rest i))) d }, k.start)

      -- the member has run: the next name, or the end
      module _ (g₂ : Progress) (e : x.ended ≡ Ok (En.Ran g₂)) (cm : Lexeme) (lex₂ : Lexed s it.to cm) (b : Bool) (sign : b ≡ is_sign_in s cm (44 ∷ [])) where
        comma : (v : Bool) → b ≡ v → is_sign "," (token_at mixed (body_in deck before.member) (item_end (body_in deck before.member) at)).token ≡ v
        comma v q = subst (λ (z : List ℕ). is_sign "," (token_at mixed z (item_end z at)).token ≡ v) body (subst (λ (i : ℕ). is_sign "," (token_at mixed s i).token ≡ v) item.to (told s it.to cm lex₂ "," (44 ∷ []) b v refl sign q))

        behind : cm.to ≡ (token_at mixed (body_in deck before.member) (item_end (body_in deck before.member) at)).to
        behind = lex₂.to ∙ ap (λ (i : ℕ). (token_at mixed s i).to) item.to ∙ ap (λ (z : List ℕ). (token_at mixed z (item_end z at)).to) body

        ran_by : (B : World) (ns : List Deck.Sought) (k : Past B ns) → EndNow (below_of inner) deck rows₂ names₂ c₂ l₂ h₂ w₂ t₂ ls₂ (here_at before.member here₂.starts) k.answer k.world (Ok (En.Ran g₂))
        ran_by B ns k = subst (λ (v : Result Ended (Stop × Progress)). EndNow (below_of inner) deck rows₂ names₂ c₂ l₂ h₂ w₂ t₂ ls₂ (here_at before.member here₂.starts) k.answer k.world v) e k.now

        left_over : (B : World) (ns : List Deck.Sought) (k : Past B ns) → names_left k.rest (world_in k.world c₂ l₂ h₂ g₂.meter.used) ≡ names_left ns (world_in B c l h g₀.meter.used)
        left_over B ns k = sym (ap (λ (v : Res Run.Stop F.End). bind v (λ a u. end_on a u (λ i. names_left k.rest i))) (ran_by B ns k).is) ∙ k.same

        pub going_more : b ≡ true → (fewer : ℕ) → fewer ≡ turns - 1 → Going rows₂ names₂ c₂ l₂ h₂ w₂ t₂ ls₂ here₂ cm.to g₂ fewer
        going_more q fewer ef = record {
          member = back.member ∙ going.member;
          is = λ B ns a.
              let k : Past B ns = passed B ns a in
              record {
                world = k.world;
                since = k.since;
                stage = (ran_by B ns k).stage;
                start = k.start;
                rest = k.rest;
                named = subst (λ (i : ℕ). Named (body_in deck before.member) i k.rest) (sym behind) (named_more (body_in deck before.member) at k.first k.rest k.named (comma true q));
                few = omega (arith, k.few, ef);
                same = left_over B ns k;
              };
        }

        ends : b ≡ false → (B : World) (ns : List Deck.Sought) → Asked B ns → Answered rows₂ names₂ c₂ l₂ h₂ w₂ t₂ ls₂ (left_at here₂ (Ok (En.Ran g₂))) B ns
        unfolding include_on
        ends q B ns a =
            let k : Past B ns = passed B ns a in
            let none : k.rest ≡ [] = named_last (body_in deck before.member) at k.first k.rest k.named (comma false q) in
            let end : names_left ns (world_in B c l h g₀.meter.used) ≡ good F.ran (world_in k.world c₂ l₂ h₂ g₂.meter.used) =
            sym (left_over B ns k) ∙ ap (λ (qs : List Deck.Sought). names_left qs (world_in k.world c₂ l₂ h₂ g₂.meter.used)) none in
            (record { world = k.world; since = k.since; now = record { stage = (ran_by B ns k).stage; is = end } }, k.start)

  -- turns do not run out
  turned : (rows₁ names₁ c₁ l₁ h₁ w₁ t₁ ls₁ : List ℕ) (here : Here) (at : ℕ) (g : Progress) (turns : ℕ) → Going rows₁ names₁ c₁ l₁ h₁ w₁ t₁ ls₁ here at g turns → turns ≤ 0 → (B : World) (ns : List Deck.Sought) → Asked B ns → ⊥
  turned rows₁ names₁ c₁ l₁ h₁ w₁ t₁ ls₁ here at g turns going none B ns a =
      let z : Now B ns rows₁ names₁ c₁ l₁ h₁ w₁ t₁ ls₁ here.starts at g turns = going.is B ns a in
      by z.rest z.named z.few
    where
      by : (qs : List Deck.Sought) → Named (body_in deck before.member) at qs → length qs ≤ turns → ⊥
      by [] k few = k
      by (q ∷ qs) k few = omega (arith, few, none)

-- ---- THE ANSWERS of `include_all`: the row is that of the INCLUDE, and the members below have it
module _ (deck rows names c l h w t ls : List ℕ) (n left : ℕ) (inner : Below) (before : Here) (g₀ : Progress) (below : Below) (one : WithBelow below before.member n inner) (part' : List ℕ) (own : part' ≡ part_here rows before) (r : Row)
    (row : r ≡ row_in part' n) where
  row_is : r ≡ row_in (part_here rows before) n
  row_is = row ∙ ap (λ (x : List ℕ). row_in x n) own

  asked : (B : World) → Stage deck rows names c l h w t ls before.starts g₀ B → Running deck (body_in deck before.member) rows before below left B → (ns : List Deck.Sought) → n < length (read_member mixed (body_of deck before.member)).rows
      → Named (body_in deck before.member) (row_in (part_here rows before) n).content ns → Asked deck rows names c l h w t ls n left r.place r.content inner before g₀ B ns
  asked B S run ns there named =
      let few : below.count < 16 = omega (arith, run.deep) in
      let in' : n < length (rows_of before.member B) = subst (λ (rs : List P.Row). n < length rs) (sym run.member.entered) there in
      record {
        stage = S;
        sound = run.sound;
        line = run.line;
        low = run.member.low;
        there = in';
        stand = subst (λ (ps : List Place). Stand ps B) (sym (one.is few)) (in', run.stand);
        deep = omega (arith, one.count few, run.deep);
        some = omega (arith, one.count few);
        named = subst (λ (x : Row). Named (body_in deck before.member) x.content ns) (sym row_is) named;
      }

  all_is : (rows₂ names₂ c₂ l₂ h₂ w₂ t₂ ls₂ : List ℕ) (y z : Left) → y ≡ z
      → ((B : World) (ns : List Deck.Sought) → Asked deck rows names c l h w t ls n left r.place r.content inner before g₀ B ns → Answered deck rows names c l h w t ls n left r.place r.content inner before g₀ rows₂ names₂ c₂ l₂ h₂ w₂ t₂ ls₂ z B ns)
      → IncludeAllIs deck rows names c l h w t ls n below before left g₀ rows₂ names₂ c₂ l₂ h₂ w₂ t₂ ls₂ y
  all_is rows₂ names₂ c₂ l₂ h₂ w₂ t₂ ls₂ y z e f = subst (λ (v : Left). IncludeAllIs deck rows names c l h w t ls n below before left g₀ rows₂ names₂ c₂ l₂ h₂ w₂ t₂ ls₂ v) (sym e) (record { is = by })
    where
      by : (B : World) → Stage deck rows names c l h w t ls before.starts g₀ B → Running deck (body_in deck before.member) rows before below left B → (ns : List Deck.Sought) → n < length (read_member mixed (body_of deck before.member)).rows
          → Named (body_in deck before.member) (row_in (part_here rows before) n).content ns
          → EndsAs (place_at before.member n ∷ below_of below) deck rows B rows₂ names₂ c₂ l₂ h₂ w₂ t₂ ls₂ before.member
          (include_on left deck (row_in (part_here rows before) n).place before.member (place_at before.member n ∷ below_of below) ns (world_in B c l h g₀.meter.used)) z
          × (start_in z.starts before.member ≡ start_in before.starts before.member)
      by B S run ns there named =
          let a : Answered deck rows names c l h w t ls n left r.place r.content inner before g₀ rows₂ names₂ c₂ l₂ h₂ w₂ t₂ ls₂ z B ns = f B ns (asked B S run ns there named) in
          let on : below_of inner ≡ place_at before.member n ∷ below_of below = one.is (omega (arith, run.deep)) in (
            subst (λ (ps : List Place). EndsAs ps deck rows B rows₂ names₂ c₂ l₂ h₂ w₂ t₂ ls₂ before.member (include_on left deck (row_in (part_here rows before) n).place before.member ps ns (world_in B c l h g₀.meter.used)) z) on
                (subst (λ (x : Row). EndsAs (below_of inner) deck rows B rows₂ names₂ c₂ l₂ h₂ w₂ t₂ ls₂ before.member (include_on left deck x.place before.member (below_of inner) ns (world_in B c l h g₀.meter.used)) z) row_is a.0),
            a.1,
          )

  module _ (s : List ℕ) (body : s ≡ body_in deck before.member) (rows₁ names₁ c₁ l₁ h₁ w₁ t₁ ls₁ : List ℕ) (here : Here) (at : ℕ) (g : Progress) (turns : ℕ)
      (going : Going deck rows names c l h w t ls n left r.place r.content inner before g₀ rows₁ names₁ c₁ l₁ h₁ w₁ t₁ ls₁ here at g turns) (it : Item) (item : ItemIs s at it) (rows₂ names₂ c₂ l₂ h₂ w₂ t₂ ls₂ : List ℕ) (x : Left)
      (ran : IncludeOneIs deck rows₁ names₁ c₁ l₁ h₁ w₁ t₁ ls₁ it.sought r.place inner here left g rows₂ names₂ c₂ l₂ h₂ w₂ t₂ ls₂ x) (here₂ : Here) (back : StartedAt here x.starts (start_in here.starts here.member) here₂) where
    pub all_left : ((g₂ : Progress) → x.ended ≡ Ok (En.Ran g₂) → ⊥) → (y : Left) → y ≡ left_at here₂ x.ended → IncludeAllIs deck rows names c l h w t ls n below before left g₀ rows₂ names₂ c₂ l₂ h₂ w₂ t₂ ls₂ y
    all_left over y f = by x.ended refl
      where
        by : (z : Result Ended (Stop × Progress)) → x.ended ≡ z → IncludeAllIs deck rows names c l h w t ls n below before left g₀ rows₂ names₂ c₂ l₂ h₂ w₂ t₂ ls₂ y
        by (Ok (En.Ran g₂)) e = absurd (over g₂ e)
        by (Ok (En.Went q g₂)) e =
            all_is rows₂ names₂ c₂ l₂ h₂ w₂ t₂ ls₂ y (left_at here₂ (Ok (En.Went q g₂))) (f ∙ ap (λ (z : Result Ended (Stop × Progress)). left_at here₂ z) e)
            (went deck rows names c l h w t ls n left r.place r.content inner before g₀ s body rows₁ names₁ c₁ l₁ h₁ w₁ t₁ ls₁ here at g turns going it item rows₂ names₂ c₂ l₂ h₂ w₂ t₂ ls₂ x ran here₂ back q g₂ e)
        by (Err (q, g₂)) e =
            all_is rows₂ names₂ c₂ l₂ h₂ w₂ t₂ ls₂ y (left_at here₂ (Err (q, g₂))) (f ∙ ap (λ (z : Result Ended (Stop × Progress)). left_at here₂ z) e)
            (stops deck rows names c l h w t ls n left r.place r.content inner before g₀ s body rows₁ names₁ c₁ l₁ h₁ w₁ t₁ ls₁ here at g turns going it item rows₂ names₂ c₂ l₂ h₂ w₂ t₂ ls₂ x ran here₂ back q g₂ e)

    pub all_ran : (g₂ : Progress) → x.ended ≡ Ok (En.Ran g₂) → (cm : Lexeme) → Lexed s it.to cm → (b : Bool) → b ≡ is_sign_in s cm (44 ∷ []) → b ≡ false → (y : Left) → y ≡ left_at here₂ (Ok (En.Ran g₂))
        → IncludeAllIs deck rows names c l h w t ls n below before left g₀ rows₂ names₂ c₂ l₂ h₂ w₂ t₂ ls₂ y
    all_ran g₂ e cm lex₂ b sign q y f =
        all_is rows₂ names₂ c₂ l₂ h₂ w₂ t₂ ls₂ y (left_at here₂ (Ok (En.Ran g₂))) f
        (ends deck rows names c l h w t ls n left r.place r.content inner before g₀ s body rows₁ names₁ c₁ l₁ h₁ w₁ t₁ ls₁ here at g turns going it item rows₂ names₂ c₂ l₂ h₂ w₂ t₂ ls₂ x ran here₂ back g₂ e cm lex₂ b sign q)

  pub all_turned : (rows₁ names₁ c₁ l₁ h₁ w₁ t₁ ls₁ : List ℕ) (here : Here) (at : ℕ) (g : Progress) (turns : ℕ) → Going deck rows names c l h w t ls n left r.place r.content inner before g₀ rows₁ names₁ c₁ l₁ h₁ w₁ t₁ ls₁ here at g turns
      → turns ≤ 0 → (y : Left) → IncludeAllIs deck rows names c l h w t ls n below before left g₀ rows₁ names₁ c₁ l₁ h₁ w₁ t₁ ls₁ y
  all_turned rows₁ names₁ c₁ l₁ h₁ w₁ t₁ ls₁ here at g turns going none y =
      all_is rows₁ names₁ c₁ l₁ h₁ w₁ t₁ ls₁ y y refl λ B ns a. absurd (turned deck rows names c l h w t ls n left r.place r.content inner before g₀ rows₁ names₁ c₁ l₁ h₁ w₁ t₁ ls₁ here at g turns going none B ns a)
