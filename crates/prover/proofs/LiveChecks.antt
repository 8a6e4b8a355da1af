-- The returns of `live_number`: from the scans of the work buffers to their one number.
use Rattle.std.proofs.Common.{◌≡◌, ℕ, ◌+◌, ◌-◌, ◌*◌, ◌%◌, ◌^◌, ◌≤◌, Bool, true, false, not, List}
use Rattle.field.specs.Slice.{canonical_words}
use Rattle.layout.proofs.CheckChains.{scan_skip, scan_stop, scan_no, scan_yes}
use Rattle.prover.specs.Given.{work}
use Rattle.prover.specs.Blocks.{part}
use Rattle.prover.specs.CallNumbers.{live_tables, live_number}
use Rattle.prover.proofs.WordChecks.{left_scan}

module _ (l n : ℕ) (lists : List ℕ) (width j : ℕ) (q eq rot ub : List ℕ) where
  abbrev number : ℕ
  number = live_number l n lists width j (work q eq rot ub)

  module _ (few : width ≤ 2 ^ 30) (most : n ≤ 20) {a : Bool} (scan-q : a ≡ canonical_words (part q 0 (width * 2 ^ (n - j) % 18446744073709551616))) where
    pub live-q : not a ≡ true → 10 ≡ number
    unfolding live_number
    live-q h = scan_stop _ _ (left_scan q width n j few most scan-q) h

    module _ (fine-q : not a ≡ false) {b : Bool} (scan-eq : b ≡ live_tables l lists j eq (l + n + 1)) where
      pub live_eq : not b ≡ true → 10 ≡ number
      unfolding live_number
      live_eq h = scan_skip _ _ (left_scan q width n j few most scan-q) fine-q (scan_stop _ _ scan-eq h)

      module _ (fine-eq : not b ≡ false) {c : Bool} (scan-rot : c ≡ live_tables l lists j rot (l + n + 1)) where
        pub live_rot : not c ≡ true → 10 ≡ number
        unfolding live_number
        live_rot h = scan_skip _ _ (left_scan q width n j few most scan-q) fine-q (scan_skip _ _ scan-eq fine-eq (scan_stop _ _ scan-rot h))

        module _ (fine-rot : not c ≡ false) {d : Bool} (scan-ub : d ≡ canonical_words ub) where
          pub live_ub : not d ≡ true → 10 ≡ number
          unfolding live_number
          live_ub h = scan_skip _ _ (left_scan q width n j few most scan-q) fine-q (scan_skip _ _ scan-eq fine-eq (scan_skip _ _ scan-rot fine-rot (scan_no _ scan-ub h)))

          pub live_all : not d ≡ false → 0 ≡ number
          unfolding live_number
          live_all h = scan_skip _ _ (left_scan q width n j few most scan-q) fine-q (scan_skip _ _ scan-eq fine-eq (scan_skip _ _ scan-rot fine-rot (scan_yes _ scan-ub h)))
