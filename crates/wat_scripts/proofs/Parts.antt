-- Steps over the parts of a command.
use Rattle.std.proofs.Common.{◌≡◌, ℕ, false, true, List, [], ◌∷◌, ◌++◌, refl, ap, sym, ◌∙◌, append_assoc, Some, None, drop}
use Rattle.std.proofs.lemmas.List.{append-nil}
use Rattle.wat_lexer.specs.Prelude.{Placed, LParen, RParen}
use Rattle.wat_lexer.specs.View.{is_paren}
use Rattle.wat_tokens.specs.Visible.{closing}
use Rattle.wat_scripts.specs.Scripts.{open_at, close_at, group_then, AllClosed, group_module, PartModules}
use Rattle.wat_scripts.specs.Steps.{PassesGroup, PartsThen, PassesPart, PassesParts, NoParts}
use Rattle.wat_scripts.specs.declared.modules.ScriptModule.{ScriptModule}
use Rattle.wat_scripts.proofs.Closing.{group_ends, one_end}

-- ---- the first token

pub not_open : (p : Placed) (at : ℕ) → is_paren p.token ≡ false → p ≡ open_at at → ⊥
not_open p at plain e =
    let is : is_paren p.token ≡ true = ap (λ (q : Placed). is_paren q.token) e in
    absurd (cc)

pub not_close : (p : Placed) (at : ℕ) → is_paren p.token ≡ false → p ≡ close_at at → ⊥
not_close p at plain e =
    let is : is_paren p.token ≡ true = ap (λ (q : Placed). is_paren q.token) e in
    absurd (cc)

pub no_both : (from to : ℕ) → open_at from ≡ close_at to → ⊥
no_both from to e =
    let is : LParen ≡ RParen = ap (λ (p : Placed). p.token) e in
    absurd (cc)

pub parts_closed : (ts : List Placed) (ms : List ScriptModule) → PartModules ts ms → AllClosed ts
parts_closed ts ms PartModules.none = AllClosed.none
parts_closed ts ms (PartModules.token p us ns plain m) = AllClosed.token p us plain (parts_closed us ns m)
parts_closed ts ms (PartModules.group from to inner us ns c m) = AllClosed.group from to inner us c (parts_closed us ns m)

-- ---- one part

token_given : (parts : List Placed) (ms : List ScriptModule) → PartModules parts ms → (p : Placed) (us : List Placed) (to : ℕ) (rest : List Placed) → is_paren p.token ≡ false → p ∷ us ≡ parts ++ close_at to ∷ rest → PartsThen us ms rest
token_given parts ms PartModules.none p us to rest plain e =
    let first : p ≡ close_at to = cc in
    absurd (not_close p to plain first)
token_given parts ms (PartModules.token q ts ns plain_too m) p us to rest plain e =
    let more : us ≡ ts ++ close_at to ∷ rest = cc in
    (ts, to, more, m)
token_given parts ms (PartModules.group from at inner ts ns c m) p us to rest plain e =
    let first : p ≡ open_at from = cc in
    absurd (not_open p from plain first)

-- a token that isn't a parenthesis
pub token_passes : (p : Placed) (ts us : List Placed) (old new : List ScriptModule) → is_paren p.token ≡ false → ts ≡ p ∷ us → new ≡ old → PassesPart ts us old new
token_passes p ts us old new plain e same = record {
  found = [];
  appended = same ∙ sym (append-nil old);
  gives = λ ms rest h. (p ∷ h.0, h.1, e ∙ ap (λ (l : List Placed). p ∷ l) h.2, PartModules.token p h.0 ms plain h.3);
  given = λ ms rest h. (ms, refl, token_given h.0 ms h.3 p us h.1 rest plain (sym e ∙ h.2));
}

group_given : (parts : List Placed) (ms : List ScriptModule) → PartModules parts ms → (from to : ℕ) (inner us : List Placed) (at : ℕ) (rest : List Placed) → AllClosed inner → group_then from inner to us ≡ parts ++ close_at at ∷ rest → (ns : List ScriptModule) × (ms ≡ group_module from to inner ++ ns) × PartsThen us ns rest
group_given parts ms PartModules.none from to inner us at rest c e =
    let first : open_at from ≡ close_at at = cc in
    absurd (no_both from at first)
group_given parts ms (PartModules.token q ts ns plain m) from to inner us at rest c e =
    let first : q ≡ open_at from = cc in
    absurd (not_open q from plain first)
group_given parts ms (PartModules.group from_too to_too inner_too ts ns k m) from to inner us at rest c e =
    let first : open_at from_too ≡ open_at from = cc in
    let from_is : from_too ≡ from = ap (λ (p : Placed). p.offset) first in
    let more : inner ++ close_at to ∷ us ≡ (inner_too ++ close_at to_too ∷ ts) ++ close_at at ∷ rest = cc in
    let (inner_is, to_is, us_is) = one_end inner inner_too to to_too us (ts ++ close_at at ∷ rest) c k (more ∙ append_assoc inner_too (close_at to_too ∷ ts) (close_at at ∷ rest)) in
    (ns, rw (from_is, to_is, inner_is) refl, (ts, at, us_is, m))

-- a group
pub group_passes : {ts us : List Placed} {old new : List ScriptModule} → PassesGroup ts us old new → PassesPart ts us old new
group_passes {ts} {us} {old} {new} g = record {
  found = group_module g.from g.to g.inner;
  appended = g.found;
  gives = λ ms rest h. (
    group_then g.from g.inner g.to h.0,
    h.1,
    g.group ∙ ap (λ (l : List Placed). group_then g.from g.inner g.to l) h.2 ∙ ap (λ (l : List Placed). open_at g.from ∷ l) (sym (append_assoc g.inner (close_at g.to ∷ h.0) (close_at h.1 ∷ rest))),
    PartModules.group g.from g.to g.inner h.0 ms g.closed h.3,
  );
  given = λ ms rest h. group_given h.0 ms h.3 g.from g.to g.inner us h.1 rest g.closed (sym g.group ∙ h.2);
}

-- ---- the command's `)`

close_only : (parts : List Placed) (ms : List ScriptModule) → PartModules parts ms → (to : ℕ) (us : List Placed) (at : ℕ) (rest : List Placed) → close_at to ∷ us ≡ parts ++ close_at at ∷ rest → (ms ≡ []) × (rest ≡ us)
close_only parts ms PartModules.none to us at rest e =
    let more : rest ≡ us = cc in
    (refl, more)
close_only parts ms (PartModules.token q ts ns plain m) to us at rest e =
    let first : q ≡ close_at to = cc in
    absurd (not_close q to plain first)
close_only parts ms (PartModules.group from also inner ts ns c m) to us at rest e =
    let first : open_at from ≡ close_at to = cc in
    absurd (no_both from to first)

pub close_passes : (to : ℕ) (ts us : List Placed) (old new : List ScriptModule) → ts ≡ close_at to ∷ us → new ≡ old → PassesParts ts us old new
close_passes to ts us old new e same = record {
  found = [];
  appended = same ∙ sym (append-nil old);
  parts = ([], to, e, PartModules.none);
  only = λ ms rest h. close_only h.0 ms h.3 to us h.1 rest (sym e ∙ h.2);
}

-- ---- tokens that aren't the parts of a command

not_at_end : (parts : List Placed) (to : ℕ) (rest : List Placed) → [] ≡ parts ++ close_at to ∷ rest → ⊥
not_at_end [] to rest e = absurd cc
not_at_end (p ∷ parts) to rest e = absurd cc

pub none_at_end : (ts : List Placed) → ts ≡ [] → NoParts ts
none_at_end ts e ms rest h = not_at_end h.0 h.1 rest (sym e ∙ h.2)

unclosed : (parts : List Placed) (ms : List ScriptModule) → PartModules parts ms → (from : ℕ) (us : List Placed) (at : ℕ) (rest : List Placed) → closing 0 us ≡ None → open_at from ∷ us ≡ parts ++ close_at at ∷ rest → ⊥
unclosed parts ms PartModules.none from us at rest denied e =
    let first : open_at from ≡ close_at at = cc in
    absurd (no_both from at first)
unclosed parts ms (PartModules.token q ts ns plain m) from us at rest denied e =
    let first : q ≡ open_at from = cc in
    absurd (not_open q from plain first)
unclosed parts ms (PartModules.group from_too to inner ts ns c m) from us at rest denied e =
    let more : us ≡ (inner ++ close_at to ∷ ts) ++ close_at at ∷ rest = cc in
    let ends = group_ends inner (ts ++ close_at at ∷ rest) to c in
    let is : closing 0 us ≡ Some (to, ts ++ close_at at ∷ rest) = ap (λ (l : List Placed). closing 0 l) (more ∙ append_assoc inner (close_at to ∷ ts) (close_at at ∷ rest)) ∙ ends in
    absurd (cc)

pub none_unclosed : (from : ℕ) (ts : List Placed) → ts ≡ open_at from ∷ drop 1 ts → closing 0 (drop 1 ts) ≡ None → NoParts ts
none_unclosed from ts e denied ms rest h = unclosed h.0 ms h.3 from (drop 1 ts) h.1 rest denied (sym e ∙ h.2)

-- ---- one step, and then the others

pub part_none : (ts : List Placed) (old : List ScriptModule) → PassesPart ts ts old old
part_none ts old = record {
  found = [];
  appended = sym (append-nil old);
  gives = λ ms rest h. h;
  given = λ ms rest h. (ms, refl, h);
}

pub part_then : {ts us vs : List Placed} {old mid new : List ScriptModule} → PassesPart ts us old mid → PassesPart us vs mid new → PassesPart ts vs old new
part_then {ts} {us} {vs} {old} {mid} {new} f g = record {
  found = f.found ++ g.found;
  appended = g.appended ∙ ap (λ (l : List ScriptModule). l ++ g.found) f.appended ∙ append_assoc old f.found g.found;
  gives = λ ms rest h. rw append_assoc (f.gives (g.found ++ ms) rest (g.gives ms rest h));
  given = λ ms rest h.
      let (ns, e, k) = f.given ms rest h in
      let (os, d, l) = g.given ns rest k in
      (os, e ∙ ap (λ (x : List ScriptModule). f.found ++ x) d ∙ sym (append_assoc f.found g.found os), l);
}

pub parts_then : {ts us vs : List Placed} {old mid new : List ScriptModule} → PassesPart ts us old mid → PassesParts us vs mid new → PassesParts ts vs old new
parts_then {ts} {us} {vs} {old} {mid} {new} f g = record {
  found = f.found ++ g.found;
  appended = g.appended ∙ ap (λ (l : List ScriptModule). l ++ g.found) f.appended ∙ append_assoc old f.found g.found;
  parts = f.gives g.found vs g.parts;
  only = λ ms rest h.
      let (ns, e, k) = f.given ms rest h in
      let (d, l) = g.only ns rest k in
      (e ∙ ap (λ (x : List ScriptModule). f.found ++ x) d, l);
}

pub none_then : {ts us : List Placed} {old mid : List ScriptModule} → PassesPart ts us old mid → NoParts us → NoParts ts
none_then f denied ms rest h =
    let (ns, e, k) = f.given ms rest h in
    denied ns rest k
