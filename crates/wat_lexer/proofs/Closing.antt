-- The ends of groups, found from the right, and the skips of hidden groups.
use Rattle.std.proofs.Common.{option_to_list, ◌≡◌, ℕ, zero, suc, ◌+◌, ◌-◌, ◌<◌, ◌≤◌, List, [], ◌∷◌, ◌++◌, length, drop, get_or, refl, ap, sym, ◌∙◌, arith, add-one, append-nil, length-drop, Bool, true, false, if◌then◌else◌, Option, Some, None, slice_get, IsSome, MatchOption, ◌↔◌, reverse, ◌&&◌, not}
use Rattle.std.proofs.lemmas.List.{reverse-append, drop-set-add}
use Rattle.std.proofs.lemmas.Option.{slice_get-get_or, slice_get-map}
use Rattle.std.proofs.Math.Seq.{map-set_same}
use Rattle.wat_lexer.specs.Laws.Prelude.{first_so, drop-map, length-map, drop_more, set, drop_of_length-le, Entry, Token, LParen, RParen, Keyword, Id, Annotation, Integer, String, Reserved, Placed, tokens_of, is_open, is_close, is_annotation, begins_hidden_group, begins_annotation_group, is_standard, annotation_name, shuts, deeper, behind_group, hidden_count_at, hidden_count, Unclosed, Closed, FirstUnclosed, entry_tok, entry_tokens, placed_of, placed, skip_in_front, skip, skipping, no_entry, AreSkips, open_is, close_is, tokens_of-placed, begins_hidden_is}
use Rattle.wat_lexer.specs.Laws.Hidden.{begins_hidden_not_open}
use Rattle.wat_lexer.specs.declared.lexeme.Skips.{Skips}
use Rattle.wat_lexer.proofs.Skips.{skips_later}

-- if only skips were stored, the tokens are the same
toks_at : (ls before : List Entry) (i : ℕ) → placed ls ≡ placed before → entry_tokens (drop i ls) ≡ drop i (tokens_of (placed before))
toks_at ls before i e = rw (← e, tokens_of-placed ls, drop-map entry_tok i ls)

pub placed_length : (ls before : List Entry) → placed ls ≡ placed before → length ls ≡ length before
placed_length ls before e = omega (arith, ap length e, length-map ls placed_of, length-map before placed_of)

-- GROUPS

-- the tokens after a group, or no tokens if the group isn't closed
abbrev pub left : Option (List Token) → List Token
left None = []
left (Some q) = q

-- the number of hidden tokens of an annotation group, from a place within the group on
hidden_count_within : (known : Bool) (r : List Token) (depth : ℕ) → hidden_count_at known (Some depth) r + length (left (behind_group depth r)) ≡ length r + hidden_count known (left (behind_group depth r))
unfolding behind_group hidden_count_at hidden_count
hidden_count_within known [] depth = refl
hidden_count_within known (x ∷ r) depth = grind (arith, hidden_count_within known r (deeper x depth))

group_counts : (known : Bool) (ts : List Token) (i end : ℕ) (x : Token) → i < end → end ≤ length ts → drop i ts ≡ x ∷ drop (i + 1) ts → left (behind_group 0 (drop (i + 1) ts)) ≡ drop end ts → begins_hidden_group known (drop i ts) ≡ true → hidden_count known (drop i ts) ≡ (end - i) + hidden_count known (drop end ts)
unfolding hidden_count hidden_count_at
group_counts known ts i end x lt le front e h = rw (front, rw front at h) (omega (arith, rw e at (hidden_count_within known (drop (i + 1) ts) 0), length-drop (i + 1) ts, length-drop end ts))

-- SKIPS

-- a group that is hidden if the five names are known is also hidden if no name is known
hidden_anyway : (known : Bool) (t : List Token) → begins_hidden_group known t ≡ true → begins_hidden_group false t ≡ true
hidden_anyway known t h = rw (first_so (begins_annotation_group t) (not (known && is_standard (annotation_name t))) h)

-- skips are right from a place on, if they are right at the place and after it
skips_cons : (x : Entry) (ls : List Entry) → AreSkips ls → ((known : Bool) → begins_hidden_group known (entry_tokens (x ∷ ls)) ≡ true → skip_in_front known (x ∷ ls) ≡ hidden_count known (entry_tokens (x ∷ ls))) → AreSkips (x ∷ ls)
skips_cons x ls behind here known zero = here known
skips_cons x ls behind here known (suc j) = behind known j

-- if no hidden group is at a place, no skip is needed there
skips_past : (x : Entry) (ls : List Entry) → AreSkips ls → begins_hidden_group false (entry_tokens (x ∷ ls)) ≡ false → AreSkips (x ∷ ls)
skips_past x ls behind none = skips_cons x ls behind (λ known h. let f = hidden_anyway known (entry_tokens (x ∷ ls)) h in cc)

-- no hidden group begins at the second token of an annotation group
second : (a b : Token) (r : List Token) → begins_hidden_group false (a ∷ b ∷ r) ≡ true → begins_hidden_group false (b ∷ r) ≡ false
second LParen (Annotation n) r h = refl
second LParen _ r h = cc
second _ b r h = cc

-- the skip that was stored with a group's annotation is right
told : (x y : Entry) (ls : List Entry) → AreSkips ls → begins_hidden_group false (entry_tokens (x ∷ y ∷ ls)) ≡ true → ((known : Bool) → begins_hidden_group known (entry_tokens (x ∷ y ∷ ls)) ≡ true → skip known y.skips ≡ hidden_count known (entry_tokens (x ∷ y ∷ ls))) → AreSkips (x ∷ y ∷ ls)
told x y ls behind begins right = skips_cons x (y ∷ ls) (skips_past y ls behind (second (entry_tok x) (entry_tok y) (entry_tokens ls) begins)) right

-- the list with other skips at a place
abbrev pub marked : List Entry → ℕ → Skips → List Entry
marked ls i skips = set ls i (skipping ls i skips)

pub marked_same : (ls : List Entry) (i : ℕ) (skips : Skips) → placed (marked ls i skips) ≡ placed ls
marked_same ls i skips = map-set_same placed_of ls i (skipping ls i skips) no_entry refl

-- the second token of an annotation's group is the annotation
annotates : (a b : Token) (r : List Token) → begins_hidden_group false (a ∷ b ∷ r) ≡ true → is_annotation b ≡ true
annotates LParen (Annotation n) r h = refl
annotates LParen _ r h = cc
annotates _ b r h = cc

pub second_within : (ls : List Entry) (at : ℕ) → begins_hidden_group false (entry_tokens (drop at ls)) ≡ true → at + 1 < length ls
second_within ls at begins =
    let (n, r, is) = begins_hidden_is (entry_tokens (drop at ls)) begins in
    omega (arith, ap length is, length-map (drop at ls) entry_tok, length-drop at ls)

pub second_annotates : (ls : List Entry) (at : ℕ) → begins_hidden_group false (entry_tokens (drop at ls)) ≡ true → is_annotation ((get_or ls (at + 1) no_entry).token) ≡ true
second_annotates ls at begins =
    let lt = second_within ls at begins in
    annotates (entry_tok (get_or ls at no_entry)) (entry_tok (get_or ls (at + 1) no_entry)) (entry_tokens (drop (at + 1 + 1) ls)) (rw (drop_more ls at no_entry (omega arith), drop_more ls (at + 1) no_entry lt) at begins)

pub marked_skips : (ls : List Entry) (at : ℕ) (skips : Skips) → begins_hidden_group false (entry_tokens (drop at ls)) ≡ true → AreSkips (drop (at + 1) ls) → ((known : Bool) → begins_hidden_group known (entry_tokens (drop at ls)) ≡ true → skip known skips ≡ hidden_count known (entry_tokens (drop at ls)))
    → AreSkips (drop at (marked ls (at + 1) skips))
marked_skips ls at skips begins behind right =
    let lt = second_within ls at begins in
    let x = get_or ls at no_entry in
    let y = skipping ls (at + 1) skips in
    let next : at + 1 + 1 ≡ at + 2 = omega arith in
    let new : drop at (marked ls (at + 1) skips) ≡ x ∷ y ∷ drop (at + 2) ls =
    rw (drop-set-add at ls 1 y, drop_more ls at no_entry (omega arith), drop_more ls (at + 1) no_entry lt, next) in
    let same : entry_tokens (x ∷ y ∷ drop (at + 2) ls) ≡ entry_tokens (drop at ls) =
    ap entry_tokens (sym new) ∙ toks_at (marked ls (at + 1) skips) ls at (marked_same ls (at + 1) skips) ∙ sym (toks_at ls ls at refl) in
    rw new (told x y (drop (at + 2) ls) (skips_later ls (at + 1) (at + 2) (omega arith) behind) (ap (begins_hidden_group false) same ∙ begins) (λ known h. right known (ap (begins_hidden_group known) (sym same) ∙ h) ∙ ap (hidden_count known) (sym same)))

-- THE PASS FROM THE RIGHT

abbrev pub at_top : List ℕ → ℕ → Option ℕ
at_top stack k = slice_get (reverse stack) k

top_push : (stack : List ℕ) (x : ℕ) → reverse (stack ++ x ∷ []) ≡ x ∷ reverse stack
top_push stack x = reverse-append stack (x ∷ [])

-- the stack after the pop at a `(`
pub record Popped (stack rest : List ℕ) (end : Option ℕ) : Type 0 where
  pub top : at_top stack 0 ≡ end
  pub below : (k : ℕ) → at_top stack (suc k) ≡ at_top rest k

split : (stack rest : List ℕ) (end : Option ℕ) → stack ≡ rest ++ option_to_list end → (IsSome end ↔ (0 < length stack)) → Popped stack rest end
split [] rest None e some = let none : rest ≡ [] = sym (append-nil rest) ∙ sym e in record { top = refl; below = λ k. rw none refl }
split (x ∷ stack) rest None e some = absurd (let f : false ≡ true = some.1 (omega arith) in cc)
split stack rest (Some x) e some = record { top = rw (e, top_push rest x); below = λ k. rw (e, top_push rest x) refl }

pub popped : {size : ℕ} {stack rest : List ℕ} {end found : Option ℕ} → stack ≡ rest ++ option_to_list end → (IsSome end ↔ (0 < size)) → size ≡ length stack → end ≡ found → Popped stack rest found
popped {stack} {rest} {end} e some all is = rw is at (split stack rest end e (rw all at some))

-- the offset of the first group from the place on that isn't closed
abbrev pub FirstFrom : List Placed → ℕ → Option ℕ → Type 0
FirstFrom ps i None = (j : ℕ) → i ≤ j → Unclosed (tokens_of ps) j → ⊥
FirstFrom ps i (Some offset) = (j : ℕ) × (t : Placed) × (i ≤ j) × (slice_get ps j ≡ Some t) × (offset ≡ t.offset) × Unclosed (tokens_of ps) j × ((k : ℕ) → i ≤ k → k < j → Unclosed (tokens_of ps) k → ⊥)

-- the end of the group in which k more groups are open, from the place on
abbrev pub ClosesAt : List Entry → ℕ → ℕ → Option ℕ → Type 0
ClosesAt before i k None = behind_group k (drop i (tokens_of (placed before))) ≡ None
ClosesAt before i k (Some e) = (behind_group k (drop i (tokens_of (placed before))) ≡ Some (drop e (tokens_of (placed before)))) × (i < e) × (e ≤ length before)

-- From the place on: the stack has the end of each group, the skips are right, and `first` is the
-- first group that isn't closed.
pub record SkipsSoFar (before : List Entry) (i : ℕ) (ls : List Entry) (stack : List ℕ) (first : Option ℕ) : Type 0 where
  pub same : placed ls ≡ placed before
  pub within : i ≤ length ls
  pub tops : (k : ℕ) → ClosesAt before i k (at_top stack k)
  pub skips : AreSkips (drop i ls)
  pub unclosed : FirstFrom (placed before) i first

-- one place further to the left
moved : (before : List Entry) (i k n : ℕ) (o : Option ℕ) → behind_group n (drop i (tokens_of (placed before))) ≡ behind_group k (drop (i + 1) (tokens_of (placed before))) → ClosesAt before (i + 1) k o → ClosesAt before i n o
moved before i k n None e h = e ∙ h
moved before i k n (Some x) e (h, low, high) = (e ∙ h, omega arith, high)

group_nil : (k : ℕ) → behind_group k [] ≡ None
unfolding behind_group
group_nil k = refl

group_cons : (k : ℕ) (x : Token) (r : List Token) → behind_group k (x ∷ r) ≡ (if shuts x k then Some r else behind_group (deeper x k) r)
unfolding behind_group
group_cons k x r = refl

group_other : (k : ℕ) (t : Token) (ts : List Token) → is_open t ≡ false → is_close t ≡ false → behind_group k (t ∷ ts) ≡ behind_group k ts
unfolding behind_group
group_other k LParen ts h e = cc
group_other k RParen ts h e = cc
group_other k (Keyword n) ts h e = refl
group_other k (Id n) ts h e = refl
group_other k (Annotation n) ts h e = refl
group_other k (Integer n) ts h e = refl
group_other k (String n) ts h e = refl
group_other k (Reserved n) ts h e = refl

-- if no hidden group is at the index, no group that isn't closed is there
not_unclosed : (ts : List Token) (i : ℕ) → begins_hidden_group false (drop i ts) ≡ false → Unclosed ts i → ⊥
not_unclosed ts i none (n, r, e, k) = absurd (let f : true ≡ false = ap (begins_hidden_group false) (sym e) ∙ none in cc)

-- at the place, or after it
past : (P : ℕ → Type 0) (i j : ℕ) → i ≤ j → (P i → ⊥) → (i + 1 ≤ j → P j → ⊥) → P j → ⊥
past P i j le here behind p = grind arith

first_passed : (ps : List Placed) (i : ℕ) (first : Option ℕ) → (Unclosed (tokens_of ps) i → ⊥) → FirstFrom ps (i + 1) first → FirstFrom ps i first
first_passed ps i None closed behind = λ j le. past (Unclosed (tokens_of ps)) i j le closed (behind j)
first_passed ps i (Some offset) closed (j, t, le, here, at, u, before) =
    (j, t, omega arith, here, at, u, λ k from lt. past (Unclosed (tokens_of ps)) i k from closed (λ more. before k more lt))

pub nothing_yet : (ls : List Entry) → SkipsSoFar ls (length ls) ls [] None
nothing_yet ls =
    let over : (j : ℕ) → length ls ≤ j → drop j (tokens_of (placed ls)) ≡ [] = λ j le. rw (tokens_of-placed ls) (drop_of_length-le (entry_tokens ls) (omega (arith, length-map ls entry_tok))) in
    let none : drop (length ls) ls ≡ [] = drop_of_length-le ls (omega arith) in record {
      same = refl;
      within = omega arith;
      tops = λ k. rw (over (length ls) (omega arith)) (group_nil k);
      skips = rw none (λ known. elim [ zero ↦ λ h. cc | suc j ↦ λ h. cc ]);
      unclosed = λ j le. not_unclosed (tokens_of (placed ls)) j (rw (over j le));
    }

-- the place before those that were passed
module _ {before ls : List Entry} {j : ℕ} {stack : List ℕ} {first : Option ℕ} (i : ℕ) (so : SkipsSoFar before j ls stack first) (back : j ≡ i + 1) where
  abbrev ts : List Token
  ts = tokens_of (placed before)

  abbrev tok : Token
  tok = entry_tok (get_or ls i no_entry)

  now : SkipsSoFar before (i + 1) ls stack first
  now = rw (← back) so

  within : (i < length ls) × (length ls ≡ length before)
  within = (omega (arith, now.within), placed_length ls before so.same)

  front : drop i ts ≡ tok ∷ drop (i + 1) ts
  front = rw (← toks_at ls before i so.same, drop_more ls i no_entry within.0) (ap (λ l. tok ∷ l) (toks_at ls before (i + 1) so.same))

  -- if no hidden group is at a place, the skips and the first group that isn't closed stay
  stays : begins_hidden_group false (drop i ts) ≡ false → AreSkips (drop i ls) × FirstFrom (placed before) i first
  stays none =
      let more = drop_more ls i no_entry within.0 in (
        rw more (skips_past (get_or ls i no_entry) (drop (i + 1) ls) now.skips (rw more at (rw (← toks_at ls before i so.same) at none))),
        first_passed (placed before) i first (not_unclosed ts i none) now.unclosed,
      )

  passing : {rest : List ℕ} → ((k : ℕ) → ClosesAt before i k (at_top rest k)) → is_open tok ≡ false → SkipsSoFar before i ls rest first
  passing tops h =
      let kept = stays (rw front (begins_hidden_not_open false tok (drop (i + 1) ts) h)) in
      record { same = so.same; within = omega (arith, within); tops = tops; skips = kept.0; unclosed = kept.1 }

  pub pushed : is_close tok ≡ true → SkipsSoFar before i ls (stack ++ (i + 1) ∷ []) first
  pushed close =
      let is = close_is tok close in
      passing (rw (top_push stack (i + 1)) (elim [
        | zero ↦ (rw (front, is, group_cons), omega arith, omega (arith, within))
        | suc k ↦ (let e : suc k - 1 ≡ k = omega arith in moved before i k (suc k) (at_top stack k) (rw (front, is, group_cons, e)) (now.tops k))
      ])) (rw is)

  pub passed_over : is_open tok ≡ false → is_close tok ≡ false → SkipsSoFar before i ls stack first
  passed_over no_open no_close = passing (λ k. moved before i k k (at_top stack k) (rw front (group_other k tok (drop (i + 1) ts) no_open no_close)) (now.tops k)) no_open

  module _ {rest : List ℕ} {end : Option ℕ} (pop : Popped stack rest end) where
    behind : ClosesAt before (i + 1) 0 end
    behind = rw pop.top at (now.tops 0)

    counts : (e : ℕ) → i < e → e ≤ length ls → left (behind_group 0 (drop (i + 1) ts)) ≡ drop e ts → (known : Bool) → begins_hidden_group known (entry_tokens (drop i ls)) ≡ true → hidden_count known (entry_tokens (drop i ls)) ≡ (e - i) + hidden_count known (entry_tokens (drop e ls))
    counts e low high there known =
        rw (toks_at ls before i so.same, toks_at ls before e so.same) (group_counts known ts i e tok low (omega (arith, within, length-map before placed_of, length-map (placed before) (λ (p : Placed). p.token))) front there)

    opening : {next : Option ℕ} (new : List Entry) → is_open tok ≡ true → placed new ≡ placed ls → AreSkips (drop i new) → FirstFrom (placed before) i next → SkipsSoFar before i new rest next
    opening new opens same skips unclosed = record {
      same = same ∙ so.same;
      within = omega (arith, within, placed_length new ls same);
      tops = λ k. rw (← pop.below k) (moved before i (suc k) k (at_top stack (suc k)) (rw (front, open_is tok opens, group_cons, add-one)) (now.tops (suc k)));
      skips = skips;
      unclosed = unclosed;
    }

    pub opened : is_open tok ≡ true → begins_hidden_group false (entry_tokens (drop i ls)) ≡ false → SkipsSoFar before i ls rest first
    opened opens none = let kept = stays (rw (toks_at ls before i so.same) at none) in opening ls opens refl kept.0 kept.1

  pub ends_here : {rest : List ℕ} {end : ℕ} → Popped stack rest (Some end) → (i < end) × (end ≤ length ls) × ((known : Bool) → begins_hidden_group known (entry_tokens (drop i ls)) ≡ true → hidden_count known (entry_tokens (drop i ls)) ≡ (end - i) + hidden_count known (entry_tokens (drop end ls)))
  ends_here {end = end} pop =
      let (there, low, high) = behind pop in
      (omega arith, omega (arith, within), counts pop end (omega arith) (omega (arith, within)) (rw there))

  pub ends_never : {rest : List ℕ} → Popped stack rest None → (known : Bool) → begins_hidden_group known (entry_tokens (drop i ls)) ≡ true → hidden_count known (entry_tokens (drop i ls)) ≡ (length ls - i) + hidden_count known (entry_tokens (drop (length ls) ls))
  ends_never pop =
      let none : drop (length ls) ls ≡ [] = drop_of_length-le ls (omega arith) in
      counts pop (length ls) within.0 (omega arith) (rw (behind pop, ← toks_at ls before (length ls) so.same, none))

  -- the tokens after the `(` of a group with an annotation
  behind_name : (n : List ℕ) (r : List Token) → drop i ts ≡ LParen ∷ (Annotation n ∷ r) → behind_group 0 (drop (i + 1) ts) ≡ behind_group 0 r
  unfolding behind_group
  behind_name n r e = let tail : drop (i + 1) ts ≡ Annotation n ∷ r = cc front in rw tail

  pub hid_closed : {rest : List ℕ} {end : ℕ} (new : List Entry) → Popped stack rest (Some end) → is_open tok ≡ true → placed new ≡ placed ls → AreSkips (drop i new) → SkipsSoFar before i new rest first
  hid_closed new pop opens same skips = opening pop new opens same skips (first_passed (placed before) i first (λ (n, r, e, none). let f = sym (behind pop).0 ∙ behind_name n r e ∙ none in cc) now.unclosed)

  pub hid_open : {rest : List ℕ} (new : List Entry) → Popped stack rest None → is_open tok ≡ true → begins_hidden_group false (entry_tokens (drop i ls)) ≡ true → placed new ≡ placed ls → AreSkips (drop i new) → SkipsSoFar before i new rest (Some ((get_or ls i no_entry).offset))
  hid_open new pop opens begins same skips =
      let (n, r, e) = begins_hidden_is (drop i ts) (rw (toks_at ls before i so.same) at begins) in
      opening pop new opens same skips (i, placed_of (get_or ls i no_entry), omega arith, rw (← so.same, slice_get-map placed_of ls i, slice_get-get_or ls i no_entry within.0), refl, (n, r, e, sym (behind_name n r e) ∙ behind pop), λ k from less v. absurd (omega arith))

-- at the start of the text the first group that isn't closed is found
pub first_from : (ps : List Placed) (first : Option ℕ) → FirstFrom ps 0 first → MatchOption first (Closed (tokens_of ps)) (FirstUnclosed ps)
first_from ps None closed = λ j. closed j (omega arith)
first_from ps (Some offset) (j, t, le, here, at, u, before) = (j, t, here, at, u, λ k. before k (omega arith))
