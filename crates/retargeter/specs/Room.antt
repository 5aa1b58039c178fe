-- Room for the scans of a network.
use Rattle.net_graph.specs.declared.net.Net.{Net}
use Rattle.scan_packer.specs.Packing.{HasBitRoom}
use Rattle.retargeter.specs.declared.buffers.Buffers.{Buffers}

-- room for all scan bits of a network in each list
pub record HasScanRoom (net : Net) (buffers : Buffers) : Type 0 where
  pub tdi : HasBitRoom net buffers.tdi
  pub tdo : HasBitRoom net buffers.tdo
  pub mask : HasBitRoom net buffers.mask
