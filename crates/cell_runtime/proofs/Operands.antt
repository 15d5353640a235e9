-- The immediates and distances of the routines.
use Rattle.std.proofs.Common.{◌-◌, ◌^◌, lit<}
use Rattle.kk_base.specs.Exits.{heap_full_exit}
use Rattle.rv_isa.specs.Conventions.{list_header}
use Rattle.rv_isa.specs.Numbers.{cell_size}
use Rattle.rv_isa.specs.declared.immediate.Immediate.{Immediate}
use Rattle.rv_isa.specs.declared.immediate.BranchOffset.{BranchOffset}
use Rattle.cell_runtime.specs.Links.{distance}

abbrev pub imm_0 : Immediate
imm_0 = record { word = 0; in_range = (lit< tt, lit< tt) }

abbrev pub imm_1 : Immediate
imm_1 = record { word = 1; in_range = (lit< tt, lit< tt) }

abbrev pub imm_4 : Immediate
imm_4 = record { word = 4; in_range = (lit< tt, lit< tt) }

abbrev pub imm_10 : Immediate
imm_10 = record { word = 10; in_range = (lit< tt, lit< tt) }

abbrev pub imm_cell_size : Immediate
imm_cell_size = record { word = cell_size; in_range = (lit< tt, lit< tt) }

abbrev pub imm_45 : Immediate
imm_45 = record { word = 45; in_range = (lit< tt, lit< tt) }

abbrev pub imm_48 : Immediate
imm_48 = record { word = 48; in_range = (lit< tt, lit< tt) }

abbrev pub imm_63 : Immediate
imm_63 = record { word = 63; in_range = (lit< tt, lit< tt) }

abbrev pub imm_64 : Immediate
imm_64 = record { word = 64; in_range = (lit< tt, lit< tt) }

abbrev pub imm_93 : Immediate
imm_93 = record { word = 93; in_range = (lit< tt, lit< tt) }

abbrev pub imm_minus_1 : Immediate
imm_minus_1 = record { word = 2 ^ 32 - 1; in_range = (lit< tt, lit< tt) }

abbrev pub forward_8 : BranchOffset
forward_8 = distance 0 2

abbrev pub forward_16 : BranchOffset
forward_16 = distance 0 4

abbrev pub back_20 : BranchOffset
back_20 = distance 5 0

abbrev pub imm_heap_full : Immediate
imm_heap_full = record { word = heap_full_exit; in_range = (lit< tt, lit< tt) }

abbrev pub imm_list_header : Immediate
imm_list_header = record { word = list_header; in_range = (lit< tt, lit< tt) }

abbrev pub forward_24 : BranchOffset
forward_24 = distance 0 6
