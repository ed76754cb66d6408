-- Samples added at the end of a record's blocks, before the fields that stand behind them: the record tells the same, but for the samples.
-- Assumes nothing.
use mathlib.Core.Bool.{Bool, true, false, cond, false≢true}
use mathlib.Core.List.{List, ◌++◌, append_assoc}
use mathlib.Core.Path.{◌≡◌, refl, sym, ap, subst, ◌∙◌}
use Prim.Native.Nat.{ℕ, zero, suc, ◌+◌, ◌≤◌, max}
use native.Mathlib.Omega.{arith}
use lib.Dec.{leb, eqb}
use lib.ListN.{length, drop, length-append}
use borrow.Author.Tests.{le-leb}
use Rattle.rules.specs.Words.{unless}
use Rattle.rules.specs.declared.Moment.{Moment}
use Rattle.rules.specs.Bench.{most_offered}
use Rattle.rules.specs.Table.{Matter, mark, number, cycle, tolerances, stretches, block, energy_before, energy_after, recharge, is_of, among, length_allowed, by_row, behind_tolerances, behind_before, behind_block, tags}
use Rattle.rules.specs.Front.{Field, Front, incomplete, impossible, field, bytes_of, front_of}
use Rattle.rules.specs.Machine.{Answer, taken, waiting, Ran, Move, on, off, move_by, onwards, go_on, reply_at, move_at, upto}
use Rattle.rules.specs.Values.{is_number, same_number, first_in, samples_of, moments_in, count_in, are_samples, block_or}
use Rattle.rules.specs.Record.{Told, Bring, own_samples, after, charged, holding, Content, brought, foreign, wrong, block_content, row_content, field_content, content_at, bring_at, take_field, told, sheet_of}
use Rattle.laws.proofs.Carried.{Accepted}
use Rattle.laws.proofs.Foreign.{lookup_both, unless_both}
use Rattle.laws.proofs.Fronts.{front_allowed}
use Rattle.laws.proofs.Moves.{move_as, by_move}
use Rattle.laws.proofs.Orders.{run_place}
use Rattle.laws.proofs.Says.{moves_to}
use Rattle.laws.proofs.Tags.{pick}
use Rattle.demands.specs.Compared.{with_samples, not_before}
use Rattle.demands.proofs.ToldCame.{SaysAt, answers, takes}
use Rattle.demands.proofs.ToldLater.{Later, later_first, later_upto, later_run, later_longer}
use Rattle.demands.proofs.ToldLed.{Led, told_led, led_told}
use Rattle.demands.proofs.Blocked.{Late, samples_late, after_late, charged_late, late, some_samples, Blocked, blocked_run, blocked_move, blocked_none}

-- ---- a field behind the blocks, where the samples ys are told

-- behind a 6 before and behind a block are one place to the table
place_same : (content : Matter → List ℕ → Content) (f : Field) (p : ℕ) → behind_before ≤ p
    → field_content (max behind_block p) content f ≡ field_content p content f
unfolding field_content by_row
place_same content f p l =
    pick p behind_before (λ (e : p ≡ behind_before). subst (λ (k : ℕ). field_content (max behind_block k) content f ≡ field_content k content f) (sym e) refl)
    (λ n. let e : max behind_block p ≡ p = omega arith in ap (λ (k : ℕ). field_content k content f) e)

-- x is y, where y is accepted and brings no samples
abbrev Same : Content → Content → Type 0
Same x y = Accepted y → ((xs : List Moment) → y ≡ brought (own_samples xs) → ⊥) → x ≡ y

-- an own block is refused, or brings samples
own_same : (x : Content) (offered : ℕ) (v : List ℕ) → Same x (block_or wrong offered (first_in v) (samples_of v) (brought (own_samples (moments_in (samples_of v)))))
unfolding unless
own_same x offered v = go (eqb (first_in v) offered) (leb (offered + count_in q) most_offered) (are_samples q (count_in q))
  where
    q : List ℕ
    q = samples_of v

    go : (a b c : Bool) → Same x (unless (wrong 6) a (unless (wrong 7) b (unless (wrong 5) c (brought (own_samples (moments_in q))))))
    go true true true = λ _ none. absurd (none (moments_in q) refl)
    go true true false = λ ok _. absurd (ok 5 refl)
    go true false c = λ ok _. absurd (ok 7 refl)
    go false b c = λ ok _. absurd (ok 6 refl)

module _ (ys : List Moment) where
  abbrev added : Told → Told
  added u = not_before behind_block (with_samples u ys)

  abbrev added_move : Move Told → Move Told
  added_move (on u m) = on (added u) m
  added_move (off e) = off e

  abbrev added_ran : Ran Told → Ran Told
  added_ran x = record { state = added x.state; fields = x.fields; used = x.used; end = x.end }

  module _ (u : Told) where
    -- another's block does not look at the samples
    block_same : (v : List ℕ) → Same (content_at (added u) block v) (content_at u block v)
    unfolding block_content unless
    block_same v = go (is_number v) (same_number u.holding.vehicle v) _ _ _ (own_same _ (length u.holding.samples) v)
      where
        go : (a b : Bool) (x y z : Content) → Same x y → Same (unless (wrong 4) a (cond b x z)) (unless (wrong 4) a (cond b y z))
        go true true x y z h = h
        go true false x y z h = λ _ _. refl
        go false b x y z h = λ _ _. refl

    content_same : (x : Matter) (v : List ℕ) → Same (content_at (added u) x v) (content_at u x v)
    content_same mark v = λ _ _. refl
    content_same number v = λ _ _. refl
    content_same cycle v = λ _ _. refl
    content_same tolerances v = λ _ _. refl
    content_same stretches v = λ _ _. refl
    content_same block v = block_same v
    content_same energy_before v = λ _ _. refl
    content_same energy_after v = λ _ _. refl
    content_same recharge v = λ _ _. refl

    -- the field brings to added u what it brings to u
    field_same : (f : Field) → behind_before ≤ u.place
        → Same (field_content (added u).place (content_at (added u)) f) (field_content u.place (content_at u) f)
    unfolding field_content by_row
    field_same f l ok none =
        place_same (content_at (added u)) f u.place l
        ∙ lookup_both Same (is_of f.tag f.value) (row_content u.place (content_at (added u)) f.value)
        (row_content u.place (content_at u) f.value) (wrong 8) (wrong 8)
        (λ r. unless_both Same (among u.place r.stands) {x = wrong 9} {y = wrong 9} (λ _ _. refl) (content_same r.holds f.value))
        (λ _ _. refl) tags ok none

    -- the field is accepted and brings no samples, or the bytes end
    abbrev Keeps : Move Told → Type 0
    Keeps (on t m) = length t.holding.samples ≤ length u.holding.samples
    Keeps (off e) = e ≡ waiting

    -- a whole field
    module _ (f : Field) (allowed : length_allowed tags f.tag (length f.value) ≡ true) (l : behind_before ≤ u.place) where
      abbrev Goes : Answer Told → Type 0
      Goes a = Keeps (move_by a (bytes_of f)) → move_by (take_field (added u) f) (bytes_of f) ≡ added_move (move_by a (bytes_of f))

      goes_brought : (b : Bring) → field_content u.place (content_at u) f ≡ brought b → SaysAt u f b → Late b → Goes (taken (bring_at u (moves_to b) b))
      goes_brought b e w (samples_late xs) = λ r. absurd (omega (arith, some_samples u f xs allowed w, length-append u.holding.samples xs))
      goes_brought b e w (after_late z) =
          let c = field_same f l (λ n q. false≢true cc) (λ xs q. false≢true cc) ∙ e in
          λ _. ap (λ (a : Answer Told). move_by a (bytes_of f)) (takes (added u) f (after z) c).1
      goes_brought b e w (charged_late k) =
          let c = field_same f l (λ n q. false≢true cc) (λ xs q. false≢true cc) ∙ e in
          λ _. ap (λ (a : Answer Told). move_by a (bytes_of f)) (takes (added u) f (charged k) c).1

      goes : (c : Content) → field_content u.place (content_at u) f ≡ c → Goes (take_field u f)
      goes (brought b) e = let (w, t) = takes u f b e in subst Goes (sym t) (goes_brought b e w (late u f b w l))
      goes foreign e =
          let c = field_same f l (λ n q. false≢true cc) (λ xs q. false≢true cc) ∙ e in
          subst Goes (sym (answers u f foreign e)) (λ _. ap (λ (a : Answer Told). move_by a (bytes_of f)) (answers (added u) f foreign c))
      goes (wrong n) e = subst Goes (sym (answers u f (wrong n) e)) (λ r. absurd (false≢true cc))

    move_added : (i : List ℕ) → behind_before ≤ u.place → Keeps (move_at tags take_field u i)
        → move_at tags take_field (added u) i ≡ added_move (move_at tags take_field u i)
    unfolding reply_at
    move_added i l = go (front_of tags i) refl
      where
        go : (x : Front) → front_of tags i ≡ x → Keeps (move_as tags take_field u x) → move_as tags take_field (added u) x ≡ added_move (move_as tags take_field u x)
        go incomplete e r = refl
        go impossible e r = refl
        go (field f) e r = goes f (front_allowed tags i f e) l (field_content u.place (content_at u) f) refl r

  -- ---- all of them

  first_added : (n : ℕ) (u : Told) (i : List ℕ) → behind_before ≤ u.place → (x : Move Told) → move_at tags take_field u i ≡ x → Keeps u x
      → upto tags take_field (suc n) (added u) i ≡ go_on (added u) (added_move x) (λ t m. upto tags take_field n t (drop m i))
  unfolding upto
  first_added n u i l x e r =
      ap (λ (y : Move Told). go_on (added u) y (λ t m. upto tags take_field n t (drop m i))) (move_added u i l (subst (Keeps u) (sym e) r) ∙ ap added_move e)

  upto_added : (n : ℕ) (u : Told) (i : List ℕ) → behind_before ≤ u.place → (let x = upto tags take_field n u i in
      x.end ≡ waiting → length x.state.holding.samples ≤ length u.holding.samples → upto tags take_field n (added u) i ≡ added_ran x)
  unfolding upto
  upto_added zero u i l = λ _ _. refl
  upto_added (suc n) u i l =
      by_move (λ (x : Ran Told). x.end ≡ waiting → length x.state.holding.samples ≤ length u.holding.samples
      → upto tags take_field (suc n) (added u) i ≡ added_ran x) u (move_at tags take_field u i) _
      (λ e d w h. first_added n u i l (off e) d w)
      (λ t m d w h.
      let p = (blocked_move u u (blocked_none u l) i t m d).place in
      let a = later_longer u t (later_first u i t m d (omega arith)) in
      let b = later_longer t (upto tags take_field n t (drop m i)).state (later_upto n t (drop m i) (omega arith)) in
      first_added n u i l (on t m) d (omega arith) ∙ ap (onwards m) (upto_added n t (drop m i) p w (omega arith)))

  led_added : (u : Told) (z : List ℕ) (x : Told) → behind_before ≤ u.place → Led u z x → x.holding.samples ≡ u.holding.samples → Led (added u) z (added x)
  led_added u z x l h e =
      let n = ap (λ (t : Told). length t.holding.samples) h.state ∙ ap length e in
      let q = upto_added (length z) u z l h.end (omega arith) in
      record {
        state = ap (λ (y : Ran Told). y.state) q ∙ ap added h.state;
        used = ap (λ (y : Ran Told). y.used) q ∙ h.used;
        end = ap (λ (y : Ran Told). y.end) q ∙ h.end;
      }

-- ---- the record

-- from s to y only own blocks were taken
blocks_bring : (s : Told) (more : List ℕ) (y : Told) → behind_before ≤ s.place → Led s more y → y.place ≡ behind_block → y.passed ≡ s.passed
    → y ≡ added y.holding.samples s
blocks_bring s more y l h six over =
    let w = subst (Later s) h.state (later_run s more (omega arith)) in
    let b = subst (Blocked s) h.state (blocked_run s more l) in
    let r = subst (λ (t : Told). s.place ≤ t.place) h.state (run_place s more) in
    let place : y.place ≡ max behind_block s.place = omega arith in
    let method = w.method (omega arith) in
    let amounts = b.amounts (omega arith) in
    λ k. record {
      place = place k;
      passed = over k;
      holding = holding (w.vehicle k) (w.cycle k) (w.tolerances k) (method k) y.holding.samples (amounts k);
    }

module _ (a more z : List ℕ) (s y x : Told) (e : sheet_of a ≡ told s) (l : behind_before ≤ s.place)
    (f : sheet_of (a ++ more) ≡ told y) (six : y.place ≡ behind_block) (over : y.passed ≡ s.passed)
    (g : sheet_of (a ++ z) ≡ told x) (same : x.holding.samples ≡ s.holding.samples) where
  -- the place is behind a block then, also where x told none
  pub blocks_added : sheet_of (a ++ (more ++ z)) ≡ told (not_before behind_block (with_samples x y.holding.samples))
  blocks_added =
      let ys = y.holding.samples in
      let h = led_added ys s z x l (told_led a z s x e g) same in
      let d = blocks_bring s more y l (told_led a more s y e f) six over in
      let h' = subst (λ (t : Told). Led t z (added ys x)) (sym d) h in
      ap sheet_of (sym (append_assoc a more z)) ∙ led_told (a ++ more) z y (added ys x) f h' (le-leb behind_tolerances (max behind_block x.place) (omega arith))

  -- the same place, where x told a block, a 6 after or a 7
  pub blocks_added_behind : behind_block ≤ x.place → sheet_of (a ++ (more ++ z)) ≡ told (with_samples x y.holding.samples)
  blocks_added_behind h =
      let p : max behind_block x.place ≡ x.place = omega arith in
      blocks_added ∙ (λ k. told (record { place = p k; passed = x.passed; holding = (with_samples x y.holding.samples).holding }))
