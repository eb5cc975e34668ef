-- How much of each column is zero after the call for the list. Assumes nothing.
use Rattle.std.specs.Prelude.{◌≡◌, true, false, ℕ}
use Rattle.std.proofs.Common.{sym}
use Rattle.definition.specs.Refusal.{keeps_workspace}
use Rattle.slice_lengths.specs.Workspaces.{row_columns}

unfoldable pub columns_told : ℕ → ℕ → ℕ
columns_told number asked = elim (keeps_workspace number) [ true ↦ 0 | false ↦ row_columns asked ]

pub told-kept : (n asked : ℕ) → keeps_workspace n ≡ true → 0 ≡ columns_told n asked
unfolding columns_told
told-kept n asked h = sym (rw (h, columns_told))

pub told-zero : (n asked : ℕ) → keeps_workspace n ≡ false → asked ≡ columns_told n asked
unfolding columns_told
told-zero n asked h = sym (rw (h, columns_told))
