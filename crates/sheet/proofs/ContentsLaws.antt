-- Laws of the contents: a line by itself, a line after others, and the table that keeps them.
use mathlib.Core.Path.{◌≡◌, refl, sym, ◌∙◌, ap, subst}
use mathlib.Core.Bool.{Bool, true, false, cond}
use mathlib.Core.List.{List, [], ◌∷◌, ◌++◌}
use Prim.Native.Nat.{ℕ, zero, suc, ◌+◌, ◌-◌, ◌≤◌, ◌<◌}
use native.Mathlib.Omega.{arith}
use native.Mathlib.Decide.{dec_lt}
use native.Mathlib.Numerals.{add-one}
use lib.Dec.{eqb, ltb}
use lib.ListN.{length, take, drop, get_or, set, length-append, length-map, get_or-append}
use lib.Seq.{length-take-le, take-take, take-suc-set, get_or_at}
use borrow.Author.Tests.{ltb-true, ltb-false, le-leb, lt-leb}
use Rattle.refusal.specs.Numbers.{number_of}
use Rattle.refusal.specs.declared.Refusal.{Refusal}
use Rattle.text.specs.Text.{is_number, value}
use Rattle.text.specs.Names.{is_name, same_name}
use Rattle.text.specs.Steps.{PartEnd}
use Rattle.text.proofs.PartLaws.{part_length}
use Rattle.words.specs.Words.{Word}
use Rattle.sheet.specs.Sheet.{refused, most_statements, lf, fields, name_in, count_in, is_entry, find, listed, entry_fault, owners, next, line_fault, bodies, contents}
use Rattle.std.specs.Prelude.{Option, Some, None, Result, Ok, Err, position, map, not}
use Rattle.std.specs.List.{All, position_or_len, slice_get}
use Rattle.std.specs.Result.{result_ok}
use Rattle.std.specs.Option.{is_some}
use Rattle.std.proofs.lemmas.Option.{slice_get_within, slice_get-get_or, get_or_from_slice_get}
use Rattle.std.proofs.lemmas.List.{map-append, get_or-take, get_or-map}
use Rattle.std.proofs.lemmas.List.Elements.{All-push}
use denote.Ref.{Bor}
use Rattle.text.specs.Steps.{number_up_to}
use Rattle.text.specs.declared.NoNumber.{NoNumber}
use Rattle.text.specs.declared.NoNumber.TheVariants.{Above, Not}
use Rattle.text.proofs.TextLaws.{above_number, no_number}
use Rattle.sheet.specs.Parts.{PartFrom, InSheet}
use Rattle.sheet.specs.Steps.{parts_from, entries_of, names, starts, counts, name_in_entry, start_in_entry, count_in_entry, Stand, Stands, EntryIs, EntryHas, EntryRead, PartAt}
use Rattle.sheet.specs.declared.contents.Entry.{Entry}
use Rattle.sheet.specs.declared.contents.Contents.{Contents}
use Rattle.sheet.proofs.LineLaws.{line-is, line-there, line-ends, or_refused_lem}

-- ---- a line by itself

pub ok_said : (r : Result ℕ NoNumber) (v : ℕ) → Some v ≡ result_ok r → r ≡ Ok v
ok_said (Ok x) v w = cc
ok_said (Err x) v w = absurd (cc)

pub entry-fields : (l : List ℕ) → eqb (length (fields l)) 2 ≡ false → is_entry l ≡ false
unfolding is_entry
entry-fields l e = rw e

module _ (l : List ℕ) (k : ℕ) (h : k < length l) (e : fields l ≡ take k l ∷ drop (k + 1) l ∷ []) where
  pub entry-name : is_name (take k l) ≡ false → is_entry l ≡ false
  unfolding is_entry
  entry-name n = rw (e, n)

  pub entry_number : is_name (take k l) ≡ true → is_number (drop (k + 1) l) ≡ false → is_entry l ≡ false
  unfolding is_entry
  entry_number n c = rw (e, n, c)

  pub entry_many : is_name (take k l) ≡ true → is_number (drop (k + 1) l) ≡ true → most_statements < value (drop (k + 1) l) → is_entry l ≡ false
  unfolding is_entry
  entry_many n c m = rw (e, n, c, lt-leb (value (drop (k + 1) l)) most_statements m)

  pub entry-form : is_name (take k l) ≡ true → is_number (drop (k + 1) l) ≡ true → value (drop (k + 1) l) ≤ most_statements → is_entry l ≡ true
  unfolding is_entry
  entry-form n c m = rw (e, n, c, le-leb (value (drop (k + 1) l)) most_statements m)

  -- a second field that is no number of at most 999
  pub entry_no_count : is_name (take k l) ≡ true → (r : Result ℕ NoNumber) → r ≡ number_up_to most_statements (drop (k + 1) l) → None ≡ result_ok r → is_entry l ≡ false
  entry_no_count n (Ok v) q w = absurd (cc)
  entry_no_count n (Err Above) q w = let m = above_number most_statements (drop (k + 1) l) (sym q) in entry_many n m.0 m.1
  entry_no_count n (Err Not) q w = entry_number n (no_number most_statements (drop (k + 1) l) (sym q))

  pub first-field : name_in l ≡ take k l
  first-field = rw e

  pub second-field : count_in l ≡ value (drop (k + 1) l)
  second-field = rw e

-- ---- the line that begins at a, after the names ns

module _ (ns : List (List ℕ)) (l : List ℕ) where
  entry_bad : is_entry l ≡ false → entry_fault ns l ≡ 9
  entry_bad b = rw b

  entry_twice : is_entry l ≡ true → listed ns (name_in l) ≡ true → entry_fault ns l ≡ 10
  entry_twice b t = rw (b, t)

  entry_new : is_entry l ≡ true → listed ns (name_in l) ≡ false → entry_fault ns l ≡ 0
  entry_new b t = rw (b, t)

module _ (ns : List (List ℕ)) (s : List ℕ) (a e : ℕ) (p : PartEnd lf s a e) (h : e < length s) where
  pub read_bad : is_entry (take (e - a) (drop a s)) ≡ false → line_fault (entry_fault ns) (parts_from s a) ≡ 9
  read_bad b = line-there s a e p (entry_fault ns) h ∙ entry_bad ns (take (e - a) (drop a s)) b

  module _ (m : List ℕ) (i : is_entry (take (e - a) (drop a s)) ≡ true) (q : name_in (take (e - a) (drop a s)) ≡ m) where
    pub read_twice : listed ns m ≡ true → line_fault (entry_fault ns) (parts_from s a) ≡ 10
    read_twice t = line-there s a e p (entry_fault ns) h ∙ entry_twice ns (take (e - a) (drop a s)) i (ap (listed ns) q ∙ t)

    pub read_sound : listed ns m ≡ false → line_fault (entry_fault ns) (parts_from s a) ≡ 0
    read_sound t = line-there s a e p (entry_fault ns) h ∙ entry_new ns (take (e - a) (drop a s)) i (ap (listed ns) q ∙ t)

-- the line l of a sheet, after the contents c: its name m, and its number of statements v
module _ (c : Contents) (a e : ℕ) (p : PartEnd lf c.sheet.now a e) (h : e < length c.sheet.now) (l m : Bor (List ℕ)) (v : ℕ) (q : l.now ≡ take (e - a) (drop a c.sheet.now))
    (i : EntryIs l m v) where
  pub read_new : PartFrom c.sheet a l → listed (names c) m.now ≡ false → EntryRead c a (record { name = m; start = a; statements = v }) (e + 1)
  read_new f t =
      let s = c.sheet.now in
      let fits : length l.now ≡ e - a = ap length q ∙ part_length lf s a e p in
      let line : next (parts_from s a) ≡ l.now = line-is s a e p ∙ sym q in
      let short : length m.now ≤ e - a = omega (arith, fits, i.inside) in
      record {
        sound = read_sound (names c) s a e p h m.now (ap is_entry (sym q) ∙ i.form) (ap name_in (sym q) ∙ i.name) t;
        ends = line-ends s a e p h;
        start = refl;
        inside = omega (arith, short, p.low);
        name = rw line i.name;
        part = record {
          from = record { memory = i.part.memory ∙ f.memory; start = omega (arith, i.part.start, f.start) };
          within = omega (arith, short, p.low);
          bytes = i.bytes ∙ ap (take (length m.now)) q ∙ take-take (length m.now) (e - a) (drop a s) short;
        };
        count = rw line i.count;
      }

-- ---- the contents, one line of k on

module _ (known : List Word) (k m : ℕ) (q : k ≡ suc m) (ns : List (List ℕ)) (cs : List ℕ) (ps : List (List ℕ)) (line : ℕ) where
  pub contents_stop : (r : Refusal) → line_fault (entry_fault ns) ps ≡ number_of r → contents known k ns cs ps line ≡ refused (number_of r) line
  unfolding contents
  contents_stop r e = rw q (or_refused_lem (line_fault (entry_fault ns) ps) r line _ e)

  pub contents_read : line_fault (entry_fault ns) ps ≡ 0
      → contents known k ns cs ps line ≡ contents known m (ns ++ name_in (next ps) ∷ []) (cs ++ count_in (next ps) ∷ []) (drop 1 ps) (suc line)
  unfolding contents
  contents_read e = rw (q, e)

pub contents_done : (known : List Word) (k : ℕ) → k ≡ 0 → (ns : List (List ℕ)) (cs : List ℕ) (ps : List (List ℕ)) (line : ℕ)
    → contents known k ns cs ps line ≡ bodies known ns cs (owners 0 cs) [] ps line
unfolding contents
contents_done known k q ns cs ps line = rw q

pub contents_cong : (known : List Word) (m : ℕ) {ns ns' : List (List ℕ)} {cs cs' : List ℕ} {ps ps' : List (List ℕ)} {line line' : ℕ}
    → ns ≡ ns' → cs ≡ cs' → ps ≡ ps' → line ≡ line' → contents known m ns cs ps line ≡ contents known m ns' cs' ps' line'
contents_cong known m p q r t = cc

-- ---- the contents kept

module _ (c : Contents) where
  pub entries-length : length (entries_of c) ≡ c.n
  entries-length = length-take-le c.n c.entries (omega (arith, c.room, c.few))

  pub names-length : length (names c) ≡ c.n
  names-length = rw length-map entries-length

  pub starts-length : length (starts c) ≡ c.n
  starts-length = rw length-map entries-length

  pub counts-length : length (counts c) ≡ c.n
  counts-length = rw length-map entries-length

  pub count-at : (i : ℕ) (e : Entry) → i < c.n → get_or (counts c) i 0 ≡ (get_or c.entries i e).statements
  count-at i e h = get_or-map count_in_entry (entries_of c) i e 0 (omega (arith, entries-length)) ∙ ap count_in_entry (get_or-take c.n c.entries i e h)

  pub start-at : (i : ℕ) (e : Entry) → i < c.n → get_or (starts c) i 0 ≡ (get_or (entries_of c) i e).start
  start-at i e h = get_or-map start_in_entry (entries_of c) i e 0 (omega (arith, entries-length))

  -- of no event yet
  pub begun-names : c.n ≡ 0 → names c ≡ []
  begun-names q = rw q

  pub begun-counts : c.n ≡ 0 → counts c ≡ []
  begun-counts q = rw q

  pub begun-stand : (s : Bor (List ℕ)) → c.n ≡ 0 → Stand s (entries_of c)
  begun-stand s q i e h = absurd (omega (arith, slice_get_within (entries_of c) i e h, entries-length))

  -- the name of event i lies where its entry says
  pub entry-part : (i : ℕ) (d : Entry) → i < c.n → PartAt c i (get_or c.entries i d).name
  entry-part i d h =
      let e = get_or (entries_of c) i d in
      let l : i < length (entries_of c) = omega (arith, entries-length) in
      let f = c.inside i d l in
      subst (λ (x : Entry). PartAt c i x.name) (get_or-take c.n c.entries i d h)
      (record {
        bytes = sym (get_or-map name_in_entry (entries_of c) i d [] l);
        event = λ x q. ap (λ (y : Entry). y.name) (get_or_from_slice_get (entries_of c) i x d q);
        none = λ g. absurd (omega arith);
        memory = f.from.memory;
        start = omega (arith, f.from.start, start-at i d h);
      })

  pub more-inside : (e : Entry) → c.n < 32 → InSheet c.sheet e → All (InSheet c.sheet) (take (c.n + 1) (set c.entries c.n e))
  more-inside e h f =
      subst (All (InSheet c.sheet)) (sym (rw add-one (take-suc-set c.entries c.n e (omega (arith, c.room))))) (All-push (InSheet c.sheet) (entries_of c) e c.inside f)

-- one event more
module _ (c d : Contents) (e : Entry) (q : entries_of d ≡ entries_of c ++ e ∷ []) where
  pub added-n : d.n ≡ c.n + 1
  added-n = omega (arith, entries-length c, entries-length d, ap length q, length-append (entries_of c) (e ∷ []))

  pub added-names : names d ≡ names c ++ e.name.now ∷ []
  added-names = ap (map name_in_entry) q ∙ map-append name_in_entry (entries_of c) (e ∷ [])

  pub added-counts : counts d ≡ counts c ++ e.statements ∷ []
  added-counts = ap (map count_in_entry) q ∙ map-append count_in_entry (entries_of c) (e ∷ [])

  pub added-stand : (s : Bor (List ℕ)) → Stand s (entries_of c) → Stands s c.n e → Stand s (entries_of d)
  added-stand s w p i x h =
      let l = entries-length c in
      let m = slice_get_within (entries_of d) i x h in
      let n = added-n in
      let k = entries-length d in
      let g : slice_get (entries_of c ++ e ∷ []) i ≡ Some x = ap (λ (es : List Entry). slice_get es i) (sym q) ∙ h in
      elim (dec_lt i c.n) [
        | yes b ↦
            let o : slice_get (entries_of c) i ≡ Some x = slice_get-get_or (entries_of c) i x (omega arith)
            ∙ ap Some (sym (get_or-append (entries_of c) (e ∷ []) x i (omega arith)) ∙ ap (λ (es : List Entry). get_or es i x) (sym q))
            ∙ sym (slice_get-get_or (entries_of d) i x m) ∙ h in
            w i x o
        | no b ↦
            let j : i ≡ c.n = omega arith in
            let y : get_or (entries_of c ++ e ∷ []) i x ≡ e = get_or_at (entries_of c) e [] x i (omega arith) in
            let z : Some x ≡ Some e = sym h ∙ slice_get-get_or (entries_of d) i x m ∙ ap Some (ap (λ (es : List Entry). get_or es i x) q ∙ y) in
            let v : x ≡ e = cc in
            rw (v, j) p
      ]

-- ---- looking a name up

find_position : (m : List ℕ) (es : List Entry) → find (map name_in_entry es) m ≡ position_or_len (λ e. same_name e.name.now m) es
find_position m [] = refl
find_position m (e ∷ es) = by (same_name e.name.now m) (find_position m es)
  where
    by : (t : Bool) → find (map name_in_entry es) m ≡ position_or_len (λ x. same_name x.name.now m) es
        → cond t zero (suc (find (map name_in_entry es) m)) ≡ cond (not t) (1 + position_or_len (λ x. same_name x.name.now m) es) 0
    by true i = refl
    by false i = omega arith

module _ (es : List Entry) (m : List ℕ) (r : Option ℕ) (e : r ≡ position (λ x. same_name x.name.now m) es) where
  module _ (ns : List (List ℕ)) (q : map name_in_entry es ≡ ns) where
    said : r ≡ cond (ltb (find ns m) (length ns)) (Some (find ns m)) None
    said =
        let w : length (map name_in_entry es) ≡ length es = rw length-map in
        let l : length ns ≡ length es = ap length (sym q) ∙ w in
        let f : find ns m ≡ position_or_len (λ x. same_name x.name.now m) es = ap (λ (x : List (List ℕ)). find x m) (sym q) ∙ find_position m es in
        rw (f, l) e

    pub find_some : (j : ℕ) → r ≡ Some j → (listed ns m ≡ true) × (j ≡ find ns m)
    find_some j w = by (listed ns m) (sym w ∙ said)
      where
        by : (t : Bool) → Some j ≡ cond t (Some (find ns m)) None → (t ≡ true) × (j ≡ find ns m)
        by true v = (refl, (cc))
        by false v = absurd (cc)

    pub find_none : r ≡ None → listed ns m ≡ false
    find_none w = by (listed ns m) (sym w ∙ said)
      where
        by : (t : Bool) → None ≡ cond t (Some (find ns m)) None → t ≡ false
        by true v = absurd (cc)
        by false v = refl

-- what `find` answers
module _ (c : Contents) (m : List ℕ) (r : Option ℕ) (e : r ≡ position (λ x. same_name x.name.now m) (entries_of c)) where
  pub is_found : is_some r ≡ true → listed (names c) m ≡ true
  is_found w = by r refl w
    where
      by : (o : Option ℕ) → r ≡ o → is_some o ≡ true → listed (names c) m ≡ true
      by None q w = absurd (cc)
      by (Some j) q w = (find_some (entries_of c) m r e (names c) refl j q).0

  pub not_found : is_some r ≡ false → listed (names c) m ≡ false
  not_found w = by r refl w
    where
      by : (o : Option ℕ) → r ≡ o → is_some o ≡ false → listed (names c) m ≡ false
      by None q w = find_none (entries_of c) m r e (names c) refl q
      by (Some j) q w = absurd (cc)

  pub found_at : (j : ℕ) → r ≡ Some j → (find (names c) m < length (names c)) × (j ≡ find (names c) m)
  found_at j q = let f = find_some (entries_of c) m r e (names c) refl j q in (ltb-true (find (names c) m) (length (names c)) f.0, f.1)

  pub not_listed : r ≡ None → length (names c) ≤ find (names c) m
  not_listed q = ltb-false (find (names c) m) (length (names c)) (find_none (entries_of c) m r e (names c) refl q)

pub entry_had : (l : Bor (List ℕ)) (r : Option (Bor (List ℕ) × ℕ)) (p : Bor (List ℕ) × ℕ) → EntryHas l r → r ≡ Some p → EntryIs l p.0 p.1
entry_had l r p w q = rw q at w

pub find_le : (ns : List (List ℕ)) (m : List ℕ) → find ns m ≤ length ns
find_le [] m = omega arith
find_le (n ∷ ns) m = by (same_name n m) (find_le ns m)
  where
    by : (t : Bool) → find ns m ≤ length ns → cond t zero (suc (find ns m)) ≤ suc (length ns)
    by true i = omega arith
    by false i = omega arith
