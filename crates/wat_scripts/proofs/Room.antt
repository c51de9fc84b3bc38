-- A parser at the first token of a text.
use Rattle.std.proofs.Common.{◌≡◌, ℕ, ◌≤◌, List, [], ◌∷◌, length, ap, sym, ◌∙◌, subst, arith}
use Rattle.std.specs.List.{All}
use Rattle.std.specs.Str.{IsUtf8}
use Rattle.wat_lexer.specs.Laws.Fronts.{one_cut}
use Rattle.wat_lexer.specs.Prelude.{Token, Placed}
use Rattle.wat_lexer.specs.View.{is_paren}
use Rattle.wat_tokens.specs.State.{State, IsFresh}
use Rattle.wat_tokens.specs.Visible.{seen}
use Rattle.wat_scripts.specs.Scripts.{CommandsModules, ScriptModules, IsScript, IsPart}
use Rattle.wat_scripts.specs.Steps.{AreBelow, IsReady, front}
use Rattle.wat_scripts.specs.Visible.{visible_placed}
use Rattle.wat_scripts.specs.declared.modules.ScriptModule.{ScriptModule}
use Rattle.wat_scripts.proofs.Stands.{Stands, cut_stands, script_parts}

below_stands : (text : List ℕ) (limit low : ℕ) (ts : List Placed) → length text ≤ limit → Stands text low ts → AreBelow limit ts
below_stands text limit low [] le s = tt
below_stands text limit low (p ∷ ts) le (a, b, c) = (λ e. let at = b (ap (λ (t : Token). is_paren t) e) in omega (arith, at.0), below_stands text limit p.offset ts le c)

pub begun_ready : (limit : ℕ) (text : List ℕ) (p : State) → IsFresh text p → length text ≤ limit → IsReady limit p
begun_ready limit text p (ts, cut, e) le = record {
  known = ap (λ (s : State). s.known) e;
  left = ap (λ (s : State). s.left) e ∙ sym (ap (λ (s : State). seen s.known s.rest) e);
  below = subst (λ (s : State). AreBelow limit s.rest) (sym e) (below_stands text limit 0 ts le (cut_stands text ts cut));
}

-- its tokens are a script, if the text is one
pub script_front : (text : List ℕ) (p : State) → IsFresh text p → (ms : List ScriptModule) → IsScript text ms → ScriptModules (front p) ms
script_front text p (ts, cut, e) ms (us, also, s) =
    let same : us ≡ ts = one_cut also.0 cut.0 in
    subst (λ (l : List Placed). ScriptModules (visible_placed l) ms) (same ∙ sym (ap (λ (s : State). s.rest) e)) s

-- the text is a script, if its tokens are one
pub script_found : (text : List ℕ) (p : State) → IsFresh text p → (ms : List ScriptModule) → ScriptModules (front p) ms → IsScript text ms
script_found text p (ts, cut, e) ms s = (ts, cut, subst (λ (l : List Placed). ScriptModules (visible_placed l) ms) (ap (λ (s : State). s.rest) e) s)

-- the modules of the script are parts of the text
pub parts_found : (text : List ℕ) (p : State) → IsFresh text p → IsUtf8 text → (ms : List ScriptModule) → CommandsModules (front p) ms → All (IsPart text) ms
parts_found text p (ts, cut, e) u ms m = script_parts text ts ms u cut (subst (λ (s : State). CommandsModules (visible_placed s.rest) ms) e m)
