-- Texts of facts, put together.
use Rattle.std.proofs.Common.{◌≡◌, ℕ, Bool, true, false, cond, ◌||◌, List, [], ◌∷◌, ◌++◌, drop, map, refl, ap, OnOk, Result, Ok, Err, is_ok, if◌then◌else◌, ◌∙◌, append_assoc, append-nil, flat_map, ◌+◌, ◌<◌, take, length, get_or, sym}
use Rattle.std.proofs.lemmas.List.{take_more}
use Rattle.std.specs.List.{filter, join_by, list_any}
use Rattle.rpki_questions.specs.certs_basics.Uris.{lookup_key}
use Rattle.rpki_validator.specs.rpki_rules.Attests.{WitnessValue}
use Rattle.rpki_validator.specs.rpki_rules.Report.{ReportValue}
use Rattle.rpki_validator.specs.rpki_rules.Views.{PathValue}
use Rattle.rpki_validator.specs.rpki_walk.Diagnosed.{ToldValue}
use Rattle.rpki_questions.specs.Lists.{is_some_list}
use Rattle.rpki_questions.specs.Refused.{refused_line, refused_object}
use Rattle.rpki_questions.specs.Told.{chain_line, chain_object, facts_about, facts_text, good_line, good_object, has_key, is_some, refuses}
use Rattle.rpki_reasons.specs.Json.{json_array}

-- What those that pass tell, of a list that shows another.
pub told : {X Y : Type 0} (f : Y → List ℕ) (p : Y → Bool) (v : X → Y) (xs : List X) → flat_map (λ x. cond (p (v x)) (f (v x)) []) xs ≡ flat_map f (filter p (map v xs))
told f p v [] = refl
told {X} {Y} f p v (x ∷ xs) =
    let rest : List ℕ = flat_map (λ x. cond (p (v x)) (f (v x)) []) xs in
    let others : List Y = filter p (map v xs) in
    elim (p (v x)) as (λ b. cond b (f (v x)) [] ++ rest ≡ flat_map f (cond b (v x ∷ others) others)) [
      | true ↦ ap (λ (t : List ℕ). f (v x) ++ t) (told f p v xs)
      | false ↦ told f p v xs
    ]

-- Values with a comma in front of each, but the first comma.
joined_by : {X : Type 0} (f : X → List ℕ) (xs : List X) → drop 1 (flat_map (λ x. 44 ∷ f x) xs) ≡ join_by f (44 ∷ []) xs
joined_by f [] = refl
joined_by f (x ∷ xs) = refl

pub array_told : {X Y : Type 0} (f : Y → List ℕ) (p : Y → Bool) (v : X → Y) (xs : List X) → 91 ∷ (drop 1 (flat_map (λ x. cond (p (v x)) (44 ∷ f (v x)) []) xs) ++ 93 ∷ []) ≡ json_array f (filter p (map v xs))
array_told f p v xs = ap (λ (t : List ℕ). 91 ∷ (drop 1 t ++ 93 ∷ [])) (told (λ y. 44 ∷ f y) p v xs) ∙ ap (λ (t : List ℕ). 91 ∷ (t ++ 93 ∷ [])) (joined_by f (filter p (map v xs)))

pub some_told : {X Y : Type 0} (p : Y → Bool) (v : X → Y) (xs : List X) → list_any (λ x. p (v x)) xs ≡ is_some_list (filter p (map v xs))
some_told p v [] = refl
some_told {X} {Y} p v (x ∷ xs) =
    let others : List Y = filter p (map v xs) in
    elim (p (v x)) as (λ b. (b || list_any (λ x. p (v x)) xs) ≡ is_some_list (cond b (v x ∷ others) others)) [
      | true ↦ refl
      | false ↦ some_told p v xs
    ]

all_pass : {Y : Type 0} (ys : List Y) → filter (λ y. true) ys ≡ ys
all_pass [] = refl
all_pass {Y} (y ∷ ys) = ap (λ (zs : List Y). y ∷ zs) (all_pass ys)

-- What each of a list that shows another tells.
pub each_told : {X Y : Type 0} (f : Y → List ℕ) (v : X → Y) (xs : List X) → flat_map (λ x. f (v x)) xs ≡ flat_map f (map v xs)
each_told f v xs = told f (λ y. true) v xs ∙ ap (flat_map f) (all_pass (map v xs))

pub each_array : {X Y : Type 0} (f : Y → List ℕ) (v : X → Y) (xs : List X) → 91 ∷ (drop 1 (flat_map (λ x. 44 ∷ f (v x)) xs) ++ 93 ∷ []) ≡ json_array f (map v xs)
each_array f v xs = array_told f (λ y. true) v xs ∙ ap (json_array f) (all_pass (map v xs))

-- One more of a list tells more.
more : {X : Type 0} (f : X → List ℕ) (xs : List X) (x : X) → flat_map f (xs ++ x ∷ []) ≡ flat_map f xs ++ f x
more f [] x = append-nil (f x)
more f (y ∷ ys) x = ap (λ (t : List ℕ). f y ++ t) (more f ys x) ∙ sym (append_assoc (f y) (flat_map f ys) (f x))

pub one_more : {X : Type 0} (f : X → List ℕ) (xs : List X) (i : ℕ) (x : X) (start before after : List ℕ) → i < length xs → x ≡ get_or xs i x
    → before ≡ start ++ flat_map f (take i xs) → after ≡ before ++ f x → after ≡ start ++ flat_map f (take (i + 1) xs)
one_more f xs i x start before after low is b a =
    a ∙ ap (λ (t : List ℕ). t ++ f x) b ∙ append_assoc start (flat_map f (take i xs)) (f x)
    ∙ ap (λ (t : List ℕ). start ++ t) (sym (more f (take i xs) x) ∙ ap (flat_map f) (ap (λ y. take i xs ++ y ∷ []) is ∙ sym (take_more xs i x low)))

-- The facts about a name, of what is refused, of a report and of chains that are shown by lists of other types.
module _ {A B C : Type 0} (va : A → ToldValue) (vb : B → WitnessValue) (vc : C → PathValue) (name key : List ℕ) (r : ReportValue) (rs : List A) (ts : List B) (ps : List C) (same : key ≡ lookup_key name) (rb : map vb ts ≡ r.witnesses) where
  abbrev refused : List ToldValue
  refused = filter (refuses name (lookup_key name)) (map va rs)

  abbrev good : List WitnessValue
  good = filter (has_key (lookup_key name)) r.witnesses

  refused_are : filter (refuses name key) (map va rs) ≡ refused
  refused_are = ap (λ (k : List ℕ). filter (refuses name k) (map va rs)) same

  good_are : filter (has_key key) (map vb ts) ≡ good
  good_are = ap (filter (has_key key)) rb ∙ ap (λ (k : List ℕ). filter (has_key k) r.witnesses) same

  chains_are : filter (λ y. true) (map vc ps) ≡ map vc ps
  chains_are = all_pass (map vc ps)

  -- As lines,
  pub lines_whole : (t0 t1 t2 t3 : List ℕ) → t0 ≡ []
      → t1 ≡ t0 ++ flat_map (λ x. cond (refuses name key (va x)) (refused_line (va x)) []) rs
      → t2 ≡ t1 ++ flat_map (λ x. cond (has_key key (vb x)) (good_line (vb x)) []) ts
      → t3 ≡ t2 ++ flat_map (λ x. cond true (chain_line (vc x)) []) ps
      → t3 ≡ facts_text false (facts_about name (map va rs) r (map vc ps))
  lines_whole t0 t1 t2 t3 e0 e1 e2 e3 =
      let a : List ℕ = flat_map refused_line refused in
      let b : List ℕ = flat_map good_line good in
      let c : List ℕ = flat_map chain_line (map vc ps) in
      let ea : flat_map (λ x. cond (refuses name key (va x)) (refused_line (va x)) []) rs ≡ a = told refused_line (refuses name key) va rs ∙ ap (flat_map refused_line) refused_are in
      let eb : flat_map (λ x. cond (has_key key (vb x)) (good_line (vb x)) []) ts ≡ b = told good_line (has_key key) vb ts ∙ ap (flat_map good_line) good_are in
      let ec : flat_map (λ x. cond true (chain_line (vc x)) []) ps ≡ c = told chain_line (λ y. true) vc ps ∙ ap (flat_map chain_line) chains_are in
      let f1 : t1 ≡ a = e1 ∙ ap (λ (t : List ℕ). t ++ flat_map (λ x. cond (refuses name key (va x)) (refused_line (va x)) []) rs) e0 ∙ ea in
      let f2 : t2 ≡ a ++ b = e2 ∙ ap (λ (t : List ℕ). t1 ++ t) eb ∙ ap (λ (t : List ℕ). t ++ b) f1 in
      e3 ∙ ap (λ (t : List ℕ). t2 ++ t) ec ∙ ap (λ (t : List ℕ). t ++ c) f2 ∙ append_assoc a b c

  -- and whether there is one.
  pub some_whole : (x y z : Bool)
      → x ≡ list_any (λ x. refuses name key (va x)) rs
      → y ≡ list_any (λ x. has_key key (vb x)) ts
      → z ≡ list_any (λ x. true) ps
      → (x || (y || z)) ≡ is_some (facts_about name (map va rs) r (map vc ps))
  some_whole x y z ex ey ez =
      let fx : x ≡ is_some_list refused = ex ∙ some_told (refuses name key) va rs ∙ ap is_some_list refused_are in
      let fy : y ≡ is_some_list good = ey ∙ some_told (has_key key) vb ts ∙ ap is_some_list good_are in
      let fz : z ≡ is_some_list (map vc ps) = ez ∙ some_told (λ y. true) vc ps ∙ ap is_some_list chains_are in
      ap (λ (b : Bool). b || (y || z)) fx ∙ ap (λ (b : Bool). is_some_list refused || (b || z)) fy ∙ ap (λ (b : Bool). is_some_list refused || (is_some_list good || b)) fz

  -- As an object, by its pieces.
  pub object_whole : (l0 l1 l2 l3 t0 t1 t2 t3 t4 t5 t6 t7 : List ℕ) → t0 ≡ []
      → t1 ≡ t0 ++ l0
      → t2 ≡ t1 ++ (91 ∷ (drop 1 (flat_map (λ x. cond (refuses name key (va x)) (44 ∷ refused_object (va x)) []) rs) ++ 93 ∷ []))
      → t3 ≡ t2 ++ l1
      → t4 ≡ t3 ++ (91 ∷ (drop 1 (flat_map (λ x. cond (has_key key (vb x)) (44 ∷ good_object (vb x)) []) ts) ++ 93 ∷ []))
      → t5 ≡ t4 ++ l2
      → t6 ≡ t5 ++ (91 ∷ (drop 1 (flat_map (λ x. cond true (44 ∷ chain_object (vc x)) []) ps) ++ 93 ∷ []))
      → t7 ≡ t6 ++ l3
      → t7 ≡ l0 ++ (json_array refused_object refused ++ (l1 ++ (json_array good_object good ++ (l2 ++ (json_array chain_object (map vc ps) ++ l3)))))
  object_whole l0 l1 l2 l3 t0 t1 t2 t3 t4 t5 t6 t7 e0 e1 e2 e3 e4 e5 e6 e7 =
      let a : List ℕ = json_array refused_object refused in
      let b : List ℕ = json_array good_object good in
      let c : List ℕ = json_array chain_object (map vc ps) in
      let ea = array_told refused_object (refuses name key) va rs ∙ ap (json_array refused_object) refused_are in
      let eb = array_told good_object (has_key key) vb ts ∙ ap (json_array good_object) good_are in
      let ec = array_told chain_object (λ y. true) vc ps ∙ ap (json_array chain_object) chains_are in
      let f1 : t1 ≡ l0 = e1 ∙ ap (λ (t : List ℕ). t ++ l0) e0 in
      let f2 : t2 ≡ l0 ++ a = e2 ∙ ap (λ (t : List ℕ). t1 ++ t) ea ∙ ap (λ (t : List ℕ). t ++ a) f1 in
      let f3 : t3 ≡ (l0 ++ a) ++ l1 = e3 ∙ ap (λ (t : List ℕ). t ++ l1) f2 in
      let f4 : t4 ≡ ((l0 ++ a) ++ l1) ++ b = e4 ∙ ap (λ (t : List ℕ). t3 ++ t) eb ∙ ap (λ (t : List ℕ). t ++ b) f3 in
      let f5 : t5 ≡ (((l0 ++ a) ++ l1) ++ b) ++ l2 = e5 ∙ ap (λ (t : List ℕ). t ++ l2) f4 in
      let f6 : t6 ≡ ((((l0 ++ a) ++ l1) ++ b) ++ l2) ++ c = e6 ∙ ap (λ (t : List ℕ). t5 ++ t) ec ∙ ap (λ (t : List ℕ). t ++ c) f5 in
      let f7 : t7 ≡ (((((l0 ++ a) ++ l1) ++ b) ++ l2) ++ c) ++ l3 = e7 ∙ ap (λ (t : List ℕ). t ++ l3) f6 in
      f7
      ∙ append_assoc ((((l0 ++ a) ++ l1) ++ b) ++ l2) c l3
      ∙ append_assoc (((l0 ++ a) ++ l1) ++ b) l2 (c ++ l3)
      ∙ append_assoc ((l0 ++ a) ++ l1) b (l2 ++ (c ++ l3))
      ∙ append_assoc (l0 ++ a) l1 (b ++ (l2 ++ (c ++ l3)))
      ∙ append_assoc l0 a (l1 ++ (b ++ (l2 ++ (c ++ l3))))

-- A comma (44), and behind it an object.
pub behind_comma : {A E : Type 0} (r : Result A E) (old mid new object : List ℕ) → mid ≡ old ++ 44 ∷ [] → OnOk r (new ≡ mid ++ object) → OnOk r (new ≡ old ++ (44 ∷ object))
behind_comma (Ok x) old mid new object e h = h ∙ ap (λ (t : List ℕ). t ++ object) e ∙ append_assoc old (44 ∷ []) object
behind_comma (Err e) old mid new object m h = tt

-- A member of an object, and behind it the others.
grouped : (old a s c rest : List ℕ) → (old ++ (a ++ (s ++ c))) ++ rest ≡ old ++ (a ++ (s ++ (c ++ rest)))
grouped old a s c rest = simp append_assoc

pub behind_member : {A E : Type 0} (r : Result A E) (old mid new a s s' c rest rest' : List ℕ) → mid ≡ old ++ (a ++ (s ++ c)) → s ≡ s' → rest ≡ rest' → OnOk r (new ≡ mid ++ rest)
    → OnOk r (new ≡ old ++ (a ++ (s' ++ (c ++ rest'))))
behind_member (Ok x) old mid new a s s' c rest rest' e es er h =
    h ∙ ap (λ (t : List ℕ). t ++ rest) e ∙ grouped old a s c rest ∙ ap (λ (t : List ℕ). old ++ (a ++ (t ++ (c ++ rest)))) es ∙ ap (λ (t : List ℕ). old ++ (a ++ (s' ++ (c ++ t)))) er
behind_member (Err x) old mid new a s s' c rest rest' e es er h = tt

-- Pieces of an object, one behind another.
joined : (old a d b s e : List ℕ) → ((old ++ (a ++ (d ++ b))) ++ s) ++ e ≡ old ++ (a ++ (d ++ (b ++ (s ++ e))))
joined old a d b s e = simp append_assoc

pub behind_number : {A E : Type 0} (r : Result A E) (old t1 t2 new n a d d' b s s' e : List ℕ) → n ≡ a ++ (d ++ b) → d ≡ d' → s ≡ s' → t1 ≡ old ++ n → t2 ≡ t1 ++ s → OnOk r (new ≡ t2 ++ e)
    → OnOk r (new ≡ old ++ (a ++ (d' ++ (b ++ (s' ++ e)))))
behind_number (Ok x) old t1 t2 new n a d d' b s s' e en ed es e1 e2 h =
    h ∙ ap (λ (t : List ℕ). t ++ e) (e2 ∙ ap (λ (t : List ℕ). t ++ s) (e1 ∙ ap (λ (t : List ℕ). old ++ t) en)) ∙ joined old a d b s e
    ∙ ap (λ (t : List ℕ). old ++ (a ++ (t ++ (b ++ (s ++ e))))) ed ∙ ap (λ (t : List ℕ). old ++ (a ++ (d' ++ (b ++ (t ++ e))))) es
behind_number (Err x) old t1 t2 new n a d d' b s s' e en ed es e1 e2 h = tt

-- An object whose last member is an array.
pub closed : (a d b list end t0 t1 t2 : List ℕ) → t0 ≡ a ++ (d ++ b) → t1 ≡ t0 ++ list → t2 ≡ t1 ++ end → t2 ≡ a ++ (d ++ (b ++ (list ++ end)))
closed a d b list end t0 t1 t2 e0 e1 e2 = e2 ∙ ap (λ (t : List ℕ). t ++ end) (e1 ∙ ap (λ (t : List ℕ). t ++ list) e0) ∙ joined [] a d b list end

-- An object whose one member is an array.
pub one_array : (a list list' end t0 t1 t2 : List ℕ) → t0 ≡ a → t1 ≡ t0 ++ list → list ≡ list' → t2 ≡ t1 ++ end → t2 ≡ a ++ (list' ++ end)
one_array a list list' end t0 t1 t2 e0 e1 el e2 =
    e2 ∙ ap (λ (t : List ℕ). t ++ end) (e1 ∙ ap (λ (t : List ℕ). t ++ list) e0 ∙ ap (λ (t : List ℕ). a ++ t) el) ∙ append_assoc a list' end

-- What was appended, where it was.
pub appended : {A E : Type 0} (r : Result A E) (new text old : List ℕ) → new ≡ (if is_ok r then text else old) → OnOk r (new ≡ text)
appended (Ok x) new text old e = e
appended (Err x) new text old e = tt

-- Facts about the same name, of the same that is refused, of one report and of the same chains.
pub same_facts : {X Y : Type 0} (u : Y → ToldValue) (v : X → PathValue) (name name' : List ℕ) (r : ReportValue) (ys ys' : List Y) (xs xs' : List X) → name ≡ name' → ys ≡ ys' → xs ≡ xs' → facts_about name (map u ys) r (map v xs) ≡ facts_about name' (map u ys') r (map v xs')
same_facts {X} {Y} u v name name' r ys ys' xs xs' en ey ex =
    ap (λ (n : List ℕ). facts_about n (map u ys) r (map v xs)) en ∙ ap (λ (zs : List Y). facts_about name' (map u zs) r (map v xs)) ey ∙ ap (λ (zs : List X). facts_about name' (map u ys') r (map v zs)) ex
