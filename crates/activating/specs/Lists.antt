-- A list of names is read again: from a name to the next, by statement.
use Rattle.std.specs.Prelude.{ℕ, zero, suc, cond, ◌≡◌, List, Option, Some, None}
use Prim.Native.String.{String}
use Rattle.definition.specs.Bytes.{mixed}
use Rattle.definition.specs.Text.{bytes_of}
use Rattle.definition.specs.Tokens.{is_word, is_sign, token_at}
use Rattle.definition.specs.World.{World, Res, good, bind}
use Rattle.definition.specs.Run.{activate_name}
use Rattle.definition.specs.declared.Why.{Why}
use Rattle.names.specs.declared.Activity.{Activity}
use Rattle.names.specs.declared.Activity.TheVariants.{Rescanned, CopiedOnly}
use Rattle.names.specs.Table.{activity_of}
use Rattle.callees.specs.Answer.{spelled_at}
use Rattle.statements.specs.Clauses.{rescan_past}
use Rattle.activating.specs.declared.Listed.{Listed}
use Rattle.activating.specs.declared.Listed.TheVariants.{Plainly, WithRescan, WithAttributes}

-- past a sign, if it stands there
unfoldable pub past_sign : String → List ℕ → ℕ → ℕ
past_sign w s at = cond (is_sign w (token_at mixed s at).token) (token_at mixed s at).to at

-- past the sign of these bytes
abbrev pub PastSign : List ℕ → List ℕ → ℕ → ℕ → Type 0
PastSign bs s at r = (w : String) → bytes_of w ≡ bs → r ≡ past_sign w s at

-- ---- behind a name
unfoldable pub behind_comma : List ℕ → ℕ → Option ℕ
behind_comma s at = cond (is_sign "," (token_at mixed s at).token) (Some (token_at mixed s at).to) None

-- in DECLARE: a comma inside parentheses, or what closes them, and the attribute
unfoldable pub declared_next : List ℕ → ℕ → Option ℕ
declared_next s at = cond (is_sign "," (token_at mixed s at).token) (Some (token_at mixed s at).to) (behind_comma s (token_at mixed s (past_sign ")" s at)).to)

unfoldable pub next_in : Listed → List ℕ → ℕ → Option ℕ
next_in Plainly s at = behind_comma s at
next_in WithRescan s at = behind_comma s (rescan_past s at)
next_in WithAttributes s at = declared_next s at

-- what a name becomes: in ACTIVATE the word behind it says
unfoldable pub activity_behind : Listed → Activity → List ℕ → ℕ → Activity
activity_behind Plainly x s at = x
activity_behind WithRescan x s at = cond (is_word "NORESCAN" (token_at mixed s at).token) CopiedOnly Rescanned
activity_behind WithAttributes x s at = x

-- ---- the names one after the other, so many at most
abbrev pub onward : Option ℕ → (ℕ → World → Res Why (Unit {0})) → World → Res Why (Unit {0})
onward None f w = good tt w
onward (Some e) f w = f e w

-- the name at a place, which may stand behind a parenthesis, ends here
abbrev pub name_end : List ℕ → ℕ → ℕ
name_end s at = (token_at mixed s (past_sign "(" s at)).to

unfoldable pub set_from : Listed → Activity → List ℕ → ℕ → ℕ → World → Res Why (Unit {0})
set_from k x s zero at w = good tt w
set_from k x s (suc f) at w =
    bind (activate_name (activity_of (activity_behind k x s (name_end s at))) (spelled_at s (past_sign "(" s at)) w) λ _ v.
    onward (next_in k s (name_end s at)) (λ e. set_from k x s f e) v
