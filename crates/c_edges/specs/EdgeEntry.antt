-- The edge facts at the C border: the refusal and the facts in one record.
-- Assumes nothing.
use Rattle.std.specs.Prelude.{false, ℕ, ℤ}
use Rattle.base.specs.Outcome.{Outcome, accepted, refused}
use Rattle.edges.specs.declared.SuperblockFilterEdge.{SuperblockFilterEdge}
use Rattle.edges.specs.declared.SuperblockFilterMi.{SuperblockFilterMi}
use Rattle.c_edges.specs.declared.Edge.{Edge}

abbrev pub mi_of : (mi_size tx_size skip : ℕ) (ref_frame : ℤ) → SuperblockFilterMi
mi_of mi_size tx_size skip ref_frame = record { mi_size = mi_size; tx_sz = tx_size; skip = skip; ref_frame = ref_frame }

-- a refusal has no facts: zeros
abbrev pub entry_of : Outcome SuperblockFilterEdge → Edge
entry_of (accepted e) =
    record {
      number = 0;
      place = 0;
      x = e.x.0;
      y = e.y.0;
      loop_col = e.loop_col;
      loop_row = e.loop_row;
      is_block_edge = e.is_block_edge;
      is_tx_edge = e.is_tx_edge;
      is_32_edge = e.is_32_edge;
      on_screen = e.on_screen;
      apply_filter = e.apply_filter;
      filter_size = e.size;
    }
entry_of (refused number place) =
    record {
      number = number;
      place = place;
      x = 0;
      y = 0;
      loop_col = 0;
      loop_row = 0;
      is_block_edge = false;
      is_tx_edge = false;
      is_32_edge = false;
      on_screen = false;
      apply_filter = false;
      filter_size = 0;
    }
