-- Steps over the commands of a script.
use Rattle.std.proofs.Common.{◌≡◌, ◌≢◌, ℕ, false, true, List, [], ◌∷◌, ◌++◌, drop, refl, ap, sym, ◌∙◌, subst, append_assoc, Some, None, codes}
use Rattle.std.proofs.lemmas.List.{append-nil}
use Rattle.std.specs.Cmp.Lexicographic.{bytes_decides}
use Rattle.wat_lexer.specs.Prelude.{Token, Placed, LParen, RParen, Keyword, tokens_of}
use Rattle.wat_lexer.specs.View.{is_paren}
use Rattle.wat_tokens.specs.Prelude.{run, at_listed}
use Rattle.wat_tokens.specs.Tests.{begins_word, begins_lparen, none_left}
use Rattle.wat_tokens.specs.Visible.{closing}
use Rattle.wat_scripts.specs.Commands.{command_words, is_command}
use Rattle.wat_scripts.specs.Scripts.{open_at, close_at, word_at, group_then, AllClosed, group_module, module_of, CommandModules, a_module, other, CommandsModules, command}
use Rattle.wat_scripts.specs.Steps.{PassesGroup, PartsThen, PassesParts, NoParts, PassesCommand, NoCommands}
use Rattle.wat_scripts.specs.declared.modules.ScriptModule.{ScriptModule}
use Rattle.wat_scripts.proofs.Closing.{group_ends, one_end}
use Rattle.wat_scripts.proofs.Fronts.{opens, first_place}
use Rattle.wat_scripts.proofs.Parts.{parts_closed}

command_closed : (from to : ℕ) (inner : List Placed) (ms : List ScriptModule) → CommandModules from to inner ms → AllClosed inner
command_closed from to inner ms (a_module f t at ts c) = AllClosed.token (word_at (codes "module") at) ts refl c
command_closed from to inner ms (other f t at w ts ns is denied m) = AllClosed.token (word_at w at) ts refl (parts_closed ts ns m)

same_word : (w v : List ℕ) (at also : ℕ) → word_at w at ≡ word_at v also → w ≡ v
same_word w v at also e =
    let is : Keyword w ≡ Keyword v = ap (λ (p : Placed). p.token) e in
    cc

-- ---- a command `( module .. )`

only_module : (from to : ℕ) (inner : List Placed) (ms : List ScriptModule) → CommandModules from to inner ms → (at : ℕ) (body : List Placed) → inner ≡ word_at (codes "module") at ∷ body → ms ≡ module_of from to body
only_module from to inner ms (a_module f t also ts c) at body e =
    let more : ts ≡ body = cc in
    ap (λ (l : List Placed). module_of from to l) more
only_module from to inner ms (other f t also w ts ns is denied m) at body e =
    let first : word_at w also ≡ word_at (codes "module") at = cc in
    absurd (denied (same_word w (codes "module") also at first))

module_given : (ts : List Placed) (ms : List ScriptModule) → CommandsModules ts ms → (from to at : ℕ) (body us : List Placed) → AllClosed (word_at (codes "module") at ∷ body) → ts ≡ group_then from (word_at (codes "module") at ∷ body) to us → (ns : List ScriptModule) × (ms ≡ module_of from to body ++ ns) × CommandsModules us ns
module_given ts ms CommandsModules.none from to at body us c e = absurd cc
module_given ts ms (command f t inner vs ks ns k m) from to at body us c e =
    let first : open_at f ≡ open_at from = cc in
    let from_is : f ≡ from = ap (λ (p : Placed). p.offset) first in
    let more : inner ++ close_at t ∷ vs ≡ (word_at (codes "module") at ∷ body) ++ close_at to ∷ us = cc in
    let (inner_is, to_is, us_is) = one_end inner (word_at (codes "module") at ∷ body) t to vs us (command_closed f t inner ks k) c more in (
      ns,
      ap (λ (l : List ScriptModule). l ++ ns) (only_module f t inner ks k at body inner_is ∙ ap (λ (n : ℕ). module_of n t body) from_is ∙ ap (λ (n : ℕ). module_of from n body) to_is),
      subst (λ (l : List Placed). CommandsModules l ns) us_is m,
    )

body_closed : (ts : List Placed) → AllClosed ts → (p : Placed) (us : List Placed) → ts ≡ p ∷ us → is_paren p.token ≡ false → AllClosed us
body_closed ts AllClosed.none p us e plain = absurd cc
body_closed ts (AllClosed.token q vs h c) p us e plain =
    let more : vs ≡ us = cc in
    subst AllClosed more c
body_closed ts (AllClosed.group from to inner vs c k) p us e plain =
    let first : p ≡ open_at from = cc in
    let is : is_paren p.token ≡ true = ap (λ (q : Placed). is_paren q.token) first in
    absurd (cc)

-- the group `( module .. )` as a command; `at` and `body` are the word's offset and the tokens after it
pub module_command : {ts us : List Placed} {old new : List ScriptModule} (g : PassesGroup ts us old new) (at : ℕ) (body : List Placed) → g.inner ≡ word_at (codes "module") at ∷ body → PassesCommand ts us old new
module_command {ts} {us} {old} {new} g at body is =
    let c : AllClosed (word_at (codes "module") at ∷ body) = subst AllClosed is g.closed in
    let b = body_closed (word_at (codes "module") at ∷ body) c (word_at (codes "module") at) body refl refl in
    let whole : ts ≡ group_then g.from (word_at (codes "module") at ∷ body) g.to us = g.group ∙ ap (λ (l : List Placed). group_then g.from l g.to us) is in
    record {
      found = module_of g.from g.to body;
      appended = g.found ∙ ap (λ (l : List Placed). old ++ group_module g.from g.to l) is;
      gives = λ ms m. subst (λ (l : List Placed). CommandsModules l (module_of g.from g.to body ++ ms)) (sym whole) (command g.from g.to (word_at (codes "module") at ∷ body) us (module_of g.from g.to body) ms (a_module g.from g.to at body b) m);
      given = λ ms m. module_given ts ms m g.from g.to at body us c whole;
    }

-- ---- another command

-- the parts of the command in these tokens
parts_given : (f t : ℕ) (inner : List Placed) (ks : List ScriptModule) → CommandModules f t inner ks → (at : ℕ) (w : List ℕ) (us rest : List Placed) → w ≢ codes "module" → inner ++ close_at t ∷ rest ≡ word_at w at ∷ us → PartsThen us ks rest
parts_given f t inner ks (a_module g s also ts c) at w us rest denied e =
    let first : word_at w at ≡ word_at (codes "module") also = cc in
    absurd (denied (same_word w (codes "module") at also first))
parts_given f t inner ks (other g s also v ts ns is not_module m) at w us rest denied e =
    let more : us ≡ ts ++ close_at t ∷ rest = cc in
    (ts, t, more, m)

other_given : (ts : List Placed) (ms : List ScriptModule) → CommandsModules ts ms → (from at : ℕ) (w : List ℕ) (us vs : List Placed) (found : List ScriptModule) → w ≢ codes "module" → ts ≡ open_at from ∷ word_at w at ∷ us
    → ((ks : List ScriptModule) (rest : List Placed) → PartsThen us ks rest → (ks ≡ found) × (rest ≡ vs)) → (ns : List ScriptModule) × (ms ≡ found ++ ns) × CommandsModules vs ns
other_given ts ms CommandsModules.none from at w us vs found denied e only = absurd cc
other_given ts ms (command f t inner rest ks ns k m) from at w us vs found denied e only =
    let more : inner ++ close_at t ∷ rest ≡ word_at w at ∷ us = cc in
    let (found_is, rest_is) = only ks rest (parts_given f t inner ks k at w us rest denied more) in
    (ns, ap (λ (l : List ScriptModule). l ++ ns) found_is, subst (λ (l : List Placed). CommandsModules l ns) rest_is m)

pub other_command : {us vs : List Placed} {old new : List ScriptModule} (ts : List Placed) (from at : ℕ) (w : List ℕ) → is_command w ≡ true → w ≢ codes "module" → ts ≡ open_at from ∷ word_at w at ∷ us → PassesParts us vs old new → PassesCommand ts vs old new
other_command {us} {vs} {old} {new} ts from at w is denied e p =
    let (parts, to, us_is, m) = p.parts in
    let whole : ts ≡ group_then from (word_at w at ∷ parts) to vs = e ∙ ap (λ (l : List Placed). open_at from ∷ word_at w at ∷ l) us_is in
    record {
      found = p.found;
      appended = p.appended;
      gives = λ ms k. subst (λ (l : List Placed). CommandsModules l (p.found ++ ms)) (sym whole) (command from to (word_at w at ∷ parts) vs p.found ms (other from to at w parts p.found is denied m) k);
      given = λ ms k. other_given ts ms k from at w us vs p.found denied e p.only;
    }

-- ---- tokens that aren't commands

none_unopened : (ts : List Placed) (ms : List ScriptModule) → CommandsModules ts ms → none_left (tokens_of ts) ≡ false → begins_lparen (tokens_of ts) ≡ false → ⊥
none_unopened ts ms CommandsModules.none more denied = absurd cc
none_unopened ts ms (command f t inner rest ks ns k m) more denied = absurd cc

-- the next token isn't a `(`
pub not_opened : (ts : List Placed) → none_left (tokens_of ts) ≡ false → begins_lparen (tokens_of ts) ≡ false → NoCommands ts
not_opened ts more denied ms m = none_unopened ts ms m more denied

none_unclosed : (ts : List Placed) (ms : List ScriptModule) → CommandsModules ts ms → (from : ℕ) (us : List Placed) → ts ≡ open_at from ∷ us → closing 0 us ≡ None → ⊥
none_unclosed ts ms CommandsModules.none from us e denied = absurd cc
none_unclosed ts ms (command f t inner rest ks ns k m) from us e denied =
    let more : us ≡ inner ++ close_at t ∷ rest = cc in
    let ends : closing 0 us ≡ Some (t, rest) = ap (λ (l : List Placed). closing 0 l) more ∙ group_ends inner rest t (command_closed f t inner ks k) in
    absurd (cc)

-- the next group isn't closed
pub not_closed : (ts : List Placed) → begins_lparen (tokens_of ts) ≡ true → closing 0 (drop 1 ts) ≡ None → NoCommands ts
not_closed ts h denied ms m = none_unclosed ts ms m (first_place ts) (drop 1 ts) (opens ts h) denied

head_listed : (f t : ℕ) (inner : List Placed) (ks : List ScriptModule) → CommandModules f t inner ks → (rest : List Placed) → run (at_listed command_words) (tokens_of (inner ++ rest)) ≡ true
head_listed f t inner ks (a_module g s at ts c) rest = refl
head_listed f t inner ks (other g s at w ts ns is denied m) rest = is

none_unnamed : (ts : List Placed) (ms : List ScriptModule) → CommandsModules ts ms → (from : ℕ) (us : List Placed) → ts ≡ open_at from ∷ us → run (at_listed command_words) (tokens_of us) ≡ false → ⊥
none_unnamed ts ms CommandsModules.none from us e denied = absurd cc
none_unnamed ts ms (command f t inner rest ks ns k m) from us e denied =
    let more : inner ++ close_at t ∷ rest ≡ us = cc in
    let named : run (at_listed command_words) (tokens_of us) ≡ true = ap (λ (l : List Placed). run (at_listed command_words) (tokens_of l)) (sym more) ∙ head_listed f t inner ks k (close_at t ∷ rest) in
    absurd (cc)

-- the first token of the next group isn't a command's word
pub not_named : (ts : List Placed) → begins_lparen (tokens_of ts) ≡ true → run (at_listed command_words) (tokens_of (drop 1 ts)) ≡ false → NoCommands ts
not_named ts h denied ms m = none_unnamed ts ms m (first_place ts) (drop 1 ts) (opens ts h) denied

none_partless : (ts : List Placed) (ms : List ScriptModule) → CommandsModules ts ms → (from at : ℕ) (w : List ℕ) (us : List Placed) → w ≢ codes "module" → ts ≡ open_at from ∷ word_at w at ∷ us → NoParts us → ⊥
none_partless ts ms CommandsModules.none from at w us denied e none_there = absurd cc
none_partless ts ms (command f t inner rest ks ns k m) from at w us denied e none_there =
    let more : inner ++ close_at t ∷ rest ≡ word_at w at ∷ us = cc in
    none_there ks rest (parts_given f t inner ks k at w us rest denied more)

-- the parts of the next command aren't closed
pub not_parts : (ts : List Placed) (from at : ℕ) (w : List ℕ) (us : List Placed) → w ≢ codes "module" → ts ≡ open_at from ∷ word_at w at ∷ us → NoParts us → NoCommands ts
not_parts ts from at w us denied e none_there ms m = none_partless ts ms m from at w us denied e none_there

-- ---- the word of a command

listed_is : (t : Token) (r : List Token) → run (at_listed command_words) (t ∷ r) ≡ true → (w : List ℕ) × (t ≡ Keyword w) × (is_command w ≡ true)
listed_is (Keyword w) r h = (w, refl, h)
listed_is LParen r h = absurd cc
listed_is RParen r h = absurd cc
listed_is _ r h = absurd cc

-- a word that is a command's
pub word_listed : (ts : List Placed) → run (at_listed command_words) (tokens_of ts) ≡ true → (w : List ℕ) × (at : ℕ) × (is_command w ≡ true) × (ts ≡ word_at w at ∷ drop 1 ts)
word_listed [] h = absurd cc
word_listed (p ∷ ts) h =
    let (w, is, c) = listed_is p.token (tokens_of ts) h in
    (w, p.offset, c, ap (λ (t : Token). record { token = t; offset = p.offset } ∷ ts) is)

pub not_module : (w : List ℕ) (at : ℕ) (ts : List Placed) → begins_word (codes "module") (tokens_of (word_at w at ∷ ts)) ≡ false → w ≢ codes "module"
not_module w at ts h e =
    let is = (bytes_decides w (codes "module")).1 e in
    absurd (cc)

-- ---- one command, and then the others

pub command_none : (ts : List Placed) (old new : List ScriptModule) → new ≡ old → PassesCommand ts ts old new
command_none ts old new same = record {
  found = [];
  appended = same ∙ sym (append-nil old);
  gives = λ ms h. h;
  given = λ ms h. (ms, refl, h);
}

pub command_then : {ts us vs : List Placed} {old mid new : List ScriptModule} → PassesCommand ts us old mid → PassesCommand us vs mid new → PassesCommand ts vs old new
command_then {ts} {us} {vs} {old} {mid} {new} f g = record {
  found = f.found ++ g.found;
  appended = g.appended ∙ ap (λ (l : List ScriptModule). l ++ g.found) f.appended ∙ append_assoc old f.found g.found;
  gives = λ ms h. rw append_assoc (f.gives (g.found ++ ms) (g.gives ms h));
  given = λ ms h.
      let (ns, e, k) = f.given ms h in
      let (os, d, l) = g.given ns k in
      (os, e ∙ ap (λ (x : List ScriptModule). f.found ++ x) d ∙ sym (append_assoc f.found g.found os), l);
}

pub commands_fail : {ts us : List Placed} {old mid : List ScriptModule} → PassesCommand ts us old mid → NoCommands us → NoCommands ts
commands_fail f denied ms h =
    let (ns, e, k) = f.given ms h in
    denied ns k

pub commands_end : {ts us : List Placed} {new : List ScriptModule} → PassesCommand ts us [] new → us ≡ [] → CommandsModules ts new
commands_end {ts} {us} {new} f e =
    let all = f.gives [] (subst (λ (l : List Placed). CommandsModules l []) (sym e) CommandsModules.none) in
    subst (CommandsModules ts) (append-nil f.found ∙ sym f.appended) all

none_after : (us : List Placed) (ns : List ScriptModule) → CommandsModules us ns → us ≡ [] → ns ≡ []
none_after us ns CommandsModules.none e = refl
none_after us ns (command f t inner rest ks ls k m) e = absurd cc

pub commands_only : {ts us : List Placed} {new : List ScriptModule} → PassesCommand ts us [] new → us ≡ [] → (ms : List ScriptModule) → CommandsModules ts ms → ms ≡ new
commands_only {ts} {us} {new} f e ms h =
    let (ns, is, k) = f.given ms h in
    is ∙ ap (λ (l : List ScriptModule). f.found ++ l) (none_after us ns k e) ∙ append-nil f.found ∙ sym f.appended
