-- Records that differ only in field 4, both with tolerances within their limits: they are refused alike, or tell the same but for the tolerances.
-- Assumes nothing.
use mathlib.Core.Bool.{Bool, true, false, false≢true}
use mathlib.Core.List.{List, ◌++◌}
use mathlib.Core.Path.{◌≡◌, refl, sym, ap, subst, ◌∙◌}
use Prim.Native.Nat.{ℕ, suc, ◌+◌, ◌-◌, ◌≤◌}
use native.Mathlib.Nat.{le_refl}
use native.Mathlib.Omega.{arith}
use lib.Dec.{leb, eqb}
use lib.ListN.{length, take, length-append}
use lib.Seq.{take_at, drop_at}
use Rattle.rules.specs.Words.{all_below, unless, be}
use Rattle.numbers.proofs.Bytes.{be_two}
use Rattle.numbers.proofs.Tests.{passed as passes}
use Rattle.rules.specs.declared.Tolerances.{Tolerances}
use Rattle.rules.specs.Bench.{tolerable}
use Rattle.rules.specs.Cycle.{valid, start_or}
use Rattle.rules.specs.Table.{tolerances, begins, length_allowed, is_tag, by_row, behind_tolerances, tags}
use Rattle.rules.specs.Front.{Field, field, front_of}
use Rattle.rules.specs.Machine.{Answer, End, waiting, broken, stopped, Ran, move_by, reply_at, move_at, run}
use Rattle.rules.specs.Values.{tolerances_in}
use Rattle.rules.specs.Record.{Told, Bring, nothing, a_number, a_cycle, the_tolerances, the_stretches, own_samples, before, after, charged, Content, brought, wrong, field_content, answer_by, content_at, bring_at, more_passed, take_field, untold, Sheet, told, refused_at, sheet_by, sheet_from, sheet_of}
use Rattle.laws.proofs.Carried.{Carries, carried}
use Rattle.laws.proofs.Fronts.{whole_front}
use Rattle.laws.proofs.Moves.{move_as}
use Rattle.laws.proofs.Places.{place_is}
use Rattle.laws.proofs.Says.{moves_to}
use Rattle.laws.proofs.Sheets.{sheet_move, Leads, sheet_first, sheet_longer}
use Rattle.demands.specs.Calls.{left}
use Rattle.demands.specs.Compared.{field_four, with_four, FirstThree, with_tolerances, retold}
use Rattle.demands.proofs.ToldCame.{SaysAt, row_says}
use Rattle.demands.proofs.ToldLater.{Later, later_run}

-- ---- what follows the start does not look at the tolerances

module _ (t : Tolerances) where
  -- r is what s is, but for the tolerances t
  abbrev Differs : Told → Told → Type 0
  Differs s r = (behind_tolerances ≤ s.place) × (with_tolerances s t ≡ r)

  differs_brought : (s : Told) (f : Field) (b : Bring) → SaysAt s f b → (m : ℕ) → m ≡ moves_to b → behind_tolerances ≤ s.place
      → Differs (bring_at s m b) (bring_at (with_tolerances s t) m b)
  differs_brought s f nothing w m e l = absurd (let p = place_is s.place 0 w.1 in omega arith)
  differs_brought s f (a_number v) w m e l = absurd (let p = place_is s.place 1 w.1 in omega arith)
  differs_brought s f (a_cycle v) w m e l = absurd (let p = place_is s.place 2 w.1 in omega arith)
  differs_brought s f (the_tolerances u) w m e l = absurd (let p = place_is s.place 3 w.1 in omega arith)
  differs_brought s f (the_stretches x) w m e l = (omega arith, refl)
  differs_brought s f (own_samples xs) w m e l = (omega arith, refl)
  differs_brought s f (before z) w m e l = (omega arith, refl)
  differs_brought s f (after z) w m e l = (omega arith, refl)
  differs_brought s f (charged k) w m e l = (omega arith, refl)

  carries : Carries (λ r. r.place) content_at bring_at more_passed Differs
  carries = record {
    same_place = λ s r d. ap (λ (y : Told). y.place) d.1;
    same_content = λ s r d f _. ap (λ (y : Told). field_content s.place (content_at y) f) d.1;
    kept_brought = λ s r d f _ b w.
        let (says, moves) = row_says s f b w in
        subst (λ (y : Told). Differs (bring_at s w.row.moves b) (bring_at y w.row.moves b)) d.1 (differs_brought s f b says w.row.moves moves d.0);
    kept_passed = λ s r d. (d.0, ap more_passed d.1);
  }

  retold_by : (e : End) (s : Told) (fields left : ℕ) → sheet_by e (with_tolerances s t) fields left ≡ retold t (sheet_by e s fields left)
  unfolding unless
  retold_by waiting s fields left = go (leb behind_tolerances s.place) (eqb left 0)
    where
      go : (a b : Bool) → unless (refused_at 15 (suc fields)) a (unless (refused_at 15 (suc fields)) b (told (with_tolerances s t)))
          ≡ retold t (unless (refused_at 15 (suc fields)) a (unless (refused_at 15 (suc fields)) b (told s)))
      go true true = refl
      go true false = refl
      go false b = refl
  retold_by broken s fields left = refl
  retold_by (stopped n) s fields left = refl

  retold_from : (n : ℕ) (s : Told) (i : List ℕ) → behind_tolerances ≤ s.place → sheet_from n (with_tolerances s t) i ≡ retold t (sheet_from n s i)
  retold_from n s i l =
      let w = carried (λ r. r.place) content_at bring_at more_passed Differs carries s (with_tolerances s t) i (l, refl) in
      let x = run tags take_field s i in
      sym (λ k. sheet_by (w.end k) (w.state.1 k) (n + w.fields k) (length i - w.used k))
      ∙ retold_by x.end x.state (n + x.fields) (length i - x.used)

-- what is told is the state at the end
told_by : (e : End) (s x : Told) (fields left : ℕ) → sheet_by e s fields left ≡ told x → s ≡ x
told_by waiting s x fields left e =
    let z = passes (refused_at 15 (suc fields)) (told x) _ _ (λ q. false≢true cc) e in
    let y = passes (refused_at 15 (suc fields)) (told x) _ _ (λ q. false≢true cc) z.1 in
    cc y.1
told_by broken s x fields left e = absurd (false≢true cc)
told_by (stopped n) s x fields left e = absurd (false≢true cc)

module _ (p q : List ℕ) (h : FirstThree p) where
  -- behind the first three fields, and how many they are
  abbrev s : Told
  s = (run tags take_field untold p).state

  abbrev n : ℕ
  n = (run tags take_field untold p).fields

  leads : Leads p s n
  leads = λ k. record { state = s; fields = n; used = h.whole k; end = h.awaits k }

  -- the answer to field 4 by its content, what is told with it, and the sheet by its tolerances
  abbrev answered : Content → Answer Told
  answered = answer_by (bring_at s behind_tolerances) (more_passed s)

  abbrev started : Tolerances → Told
  started t = bring_at s behind_tolerances (the_tolerances t)

  abbrev sheet : Tolerances → Sheet
  sheet t = start_or (λ x. refused_at x (suc n)) s.holding.cycle t (sheet_from (suc n) (started t) q)

  -- ---- one record
  module _ (v : List ℕ) (six : length v ≡ 6) where
    abbrev i : List ℕ
    i = field_four v ++ q

    abbrev four : Field
    four = record { tag = 4; value = v }

    front_four : front_of tags i ≡ field four
    unfolding is_tag length_allowed
    front_four =
        let size : be 2 i 1 ≡ 6 = be_two i 1 in
        let allowed : length_allowed tags 4 (be 2 i 1) ≡ true = ap (length_allowed tags 4) size in
        whole_front tags i refl allowed (omega (arith, length-append v q))
        ∙ ap (λ (m : ℕ). field (record { tag = 4; value = take m (v ++ q) })) size
        ∙ ap (λ (w : List ℕ). field (record { tag = 4; value = w })) (take_at v q 6 six)

    abbrev t : Tolerances
    t = tolerances_in v

    take_four : take_field s four ≡ answered (content_at s tolerances v)
    unfolding field_content by_row begins all_below unless
    take_four = rw h.three

    move_four : move_at tags take_field s i ≡ move_by (answered (content_at s tolerances v)) 9
    unfolding reply_at
    move_four =
        ap (move_as tags take_field s) front_four
        ∙ ap (λ (a : Answer Told). move_by a (3 + length v)) take_four
        ∙ ap (λ (m : ℕ). move_by (answered (content_at s tolerances v)) (3 + m)) six

    sheet_four : sheet_of (with_four p q v) ≡ sheet t
    unfolding unless
    sheet_four = sheet_longer p s n leads i ∙ sheet_first n s i ∙ ap (sheet_move n s i) move_four ∙ go (valid s.holding.cycle) (tolerable t)
      where
        go : (a b : Bool) → sheet_move n s i (move_by (answered (unless (wrong 2) a (unless (wrong 3) b (brought (the_tolerances t))))) 9)
            ≡ unless (refused_at 2 (suc n)) a (unless (refused_at 3 (suc n)) b (sheet_from (suc n) (started t) q))
        go true true = ap (sheet_from (suc n) (started t)) (drop_at v q 6 six)
        go true false = refl
        go false b = refl

    abbrev ran : Ran Told
    ran = run tags take_field (started t) q

    -- where the record is told: the start was not refused, and what follows leads to what is told
    told_from : (x : Told) → sheet_of (with_four p q v) ≡ told x → (valid s.holding.cycle ≡ true) × (tolerable t ≡ true) × (ran.state ≡ x)
    told_from x e =
        let z = passes (refused_at 2 (suc n)) (told x) _ _ (λ q. false≢true cc) (sym sheet_four ∙ e) in
        let y = passes (refused_at 3 (suc n)) (told x) _ _ (λ q. false≢true cc) z.1 in
        (z.0, y.0, told_by ran.end ran.state x (suc n + ran.fields) (length q - ran.used) y.1)

    -- so it comes after the start
    later : (x : Told) → sheet_of (with_four p q v) ≡ told x → Later (started t) x
    later x e = subst (Later (started t)) (told_from x e).2 (later_run (started t) q (le_refl behind_tolerances))

    -- the tolerances that such a record tells are those of its field 4; they are within their limits, and its cycle is valid
    pub told_four : (x : Told) → sheet_of (with_four p q v) ≡ told x → x.holding.tolerances ≡ tolerances_in v
    told_four x e = (later x e).tolerances

    pub tolerable_four : (x : Told) → sheet_of (with_four p q v) ≡ told x → tolerable (tolerances_in v) ≡ true
    tolerable_four x e = (told_from x e).1

    pub valid_four : (x : Told) → sheet_of (with_four p q v) ≡ told x → valid x.holding.cycle ≡ true
    valid_four x e = ap valid (later x e).cycle ∙ (told_from x e).0

  -- ---- two records

  sheet_retold : (t t' : Tolerances) → tolerable t ≡ true → tolerable t' ≡ true → sheet t' ≡ retold t' (sheet t)
  unfolding unless
  sheet_retold t t' ok ok' = rw (ok, ok') (go (valid s.holding.cycle))
    where
      go : (a : Bool) → unless (refused_at 2 (suc n)) a (sheet_from (suc n) (started t') q)
          ≡ retold t' (unless (refused_at 2 (suc n)) a (sheet_from (suc n) (started t) q))
      go true = retold_from t' (suc n) (started t) q (le_refl behind_tolerances)
      go false = refl

  pub retold_four : (v v' : List ℕ) → length v ≡ 6 → length v' ≡ 6 → tolerable (tolerances_in v) ≡ true → tolerable (tolerances_in v') ≡ true
      → sheet_of (with_four p q v') ≡ retold (tolerances_in v') (sheet_of (with_four p q v))
  retold_four v v' six six' ok ok' =
      sheet_four v' six' ∙ sheet_retold (tolerances_in v) (tolerances_in v') ok ok' ∙ ap (retold (tolerances_in v')) (sym (sheet_four v six))
